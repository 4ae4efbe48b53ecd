use Rattle.std.proofs.Common.{◌≡◌, ◌++◌, take, string_bytes}
use Rattle.std.specs.List.{flat_map}
use Rattle.ring_status.specs.Health.{blocked_text}
use Rattle.ring_status.proofs.health.print_blocks.Given as goal

abbrev pub invariant-loop-node : goal.invariant-loop-node
invariant-loop-node l = string_bytes l.out ≡ string_bytes l.initial.out ++ flat_map blocked_text (take l.node-index l.nodes)
