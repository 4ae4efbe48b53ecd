use Rattle.std.proofs.Common.{◌≡◌, ◌++◌, length}
use Rattle.decision_board.specs.Boards.{published, pending, refusals}
use Rattle.decision_board.proofs.owed.hand_over.Given as goal

-- what the board took stands before what is still owed, and no growth was refused
abbrev pub invariant-loop-notice : goal.invariant-loop-notice
invariant-loop-notice g l = (published l.board ≡ published l.fn.board)
    × (pending l.board ++ l.owed.items ≡ pending l.fn.board ++ l.fn.owed.items)
    × (refusals l.board ≡ refusals l.fn.board)

abbrev pub decreases-loop-notice : goal.decreases-loop-notice
decreases-loop-notice g l = length l.owed.items
