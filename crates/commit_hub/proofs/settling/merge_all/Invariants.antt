use Rattle.std.specs.Prelude.{◌≡◌, ◌+◌, length}
use Rattle.std.specs.List.{sum_by}
use Rattle.commit_hub.specs.Holders.{count_of}
use Rattle.commit_hub.proofs.settling.merge_all.Given as goal

-- what was merged and what is left make the whole
abbrev pub invariant-loop-share : goal.invariant-loop-share
invariant-loop-share g l = record {
  parts : l.whole.parts + length l.shares.items ≡ l.initial.whole.parts + length l.initial.shares.items;
  amount : l.whole.amount + sum_by count_of l.shares.items ≡ l.initial.whole.amount + sum_by count_of l.initial.shares.items;
}

abbrev pub decreases-loop-share : goal.decreases-loop-share
decreases-loop-share g l = length l.shares.items
