use Rattle.rows.proofs.node.tickets.end_all.Given as goal

abbrev pub invariant-loop-first : goal.invariant-loop-first
invariant-loop-first l = Unit {0}

abbrev pub decreases-loop-first : goal.decreases-loop-first
decreases-loop-first l = goal.left-loop-first l
