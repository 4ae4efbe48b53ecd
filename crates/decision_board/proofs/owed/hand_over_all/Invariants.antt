use Rattle.std.proofs.Common.{◌≡◌, ◌≤◌, ◌++◌, length}
use Rattle.decision_board.specs.Boards.{published, pending, refusals, in_rounds}
use Rattle.decision_board.proofs.owed.hand_over_all.Given as goal

-- what the board took stands before what is still owed
abbrev pub invariant-loop-round : goal.invariant-loop-round
invariant-loop-round g l = (published l.board ≡ published l.fn.board)
    × (pending l.board ++ in_rounds l.owed.items ≡ pending l.fn.board ++ in_rounds l.fn.owed.items)
    × (refusals l.fn.board ≤ refusals l.board)

abbrev pub decreases-loop-round : goal.decreases-loop-round
decreases-loop-round g l = length l.owed.items
