use Rattle.std.proofs.Common.{◌≡◌, ◌++◌, take, string_bytes}
use Rattle.std.specs.List.{flat_map}
use Rattle.ring_status.specs.Metrics.{commit_samples}
use Rattle.ring_status.proofs.metrics.print_all_commits.Given as goal

abbrev pub invariant-loop-node : goal.invariant-loop-node
invariant-loop-node l = string_bytes l.out ≡ string_bytes l.initial.out ++ flat_map commit_samples (take l.node-index l.nodes)
