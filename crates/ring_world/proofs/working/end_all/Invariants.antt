use Rattle.ring_world.proofs.working.end_all.Given as goal

abbrev pub invariant-loop-node : goal.invariant-loop-node
invariant-loop-node l = Unit {0}

abbrev pub decreases-loop-node : goal.decreases-loop-node
decreases-loop-node l = goal.left-loop-node l
