use Rattle.std.proofs.Common.{◌≡◌, ◌++◌, take, string_bytes}
use Rattle.std.specs.List.{flat_map}
use Rattle.ring_status.specs.Metrics.{within_sample}
use Rattle.ring_status.proofs.metrics.print_each_within.Given as goal

abbrev pub invariant-loop-told : goal.invariant-loop-told
invariant-loop-told l = string_bytes l.out ≡ string_bytes l.initial.out ++ flat_map (within_sample l.node) (take l.told-index l.within)
