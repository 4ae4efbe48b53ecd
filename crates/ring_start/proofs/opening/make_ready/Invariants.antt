use Rattle.ring_start.specs.Written.{AreReady}
use Rattle.ring_start.proofs.opening.make_ready.Given as goal

-- the nodes before this one are ready
abbrev pub invariant-loop-node : goal.invariant-loop-node
invariant-loop-node g l = AreReady l.yielded l.ring.items
