use Rattle.std.specs.Prelude.{◌≡◌, ◌-◌, ◌^◌, min, take}
use Rattle.std.specs.List.{sum_by}
use Rattle.commit_hub.specs.Holders.{count_of}
use Rattle.commit_hub.proofs.settling.counted_by.Given as goal

abbrev pub invariant-loop-share : goal.invariant-loop-share
invariant-loop-share g l = l.total ≡ min (sum_by count_of (take l.share-index l.shares)) (2 ^ 64 - 1)
