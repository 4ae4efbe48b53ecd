use Rattle.rows.proofs.node.players.end_all.Given as goal

abbrev pub invariant-loop-player : goal.invariant-loop-player
invariant-loop-player l = Unit {0}

abbrev pub decreases-loop-player : goal.decreases-loop-player
decreases-loop-player l = goal.left-loop-player l
