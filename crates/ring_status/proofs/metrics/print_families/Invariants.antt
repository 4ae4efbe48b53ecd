use Rattle.std.proofs.Common.{◌≡◌, ◌++◌, take, string_bytes}
use Rattle.std.specs.List.{flat_map}
use Rattle.ring_status.specs.Metrics.{family_of}
use Rattle.ring_status.proofs.metrics.print_families.Given as goal

abbrev pub invariant-loop-metric : goal.invariant-loop-metric
invariant-loop-metric l = string_bytes l.out ≡ string_bytes l.initial.out ++ flat_map (family_of l.nodes) (take l.metric-index l.metrics)
