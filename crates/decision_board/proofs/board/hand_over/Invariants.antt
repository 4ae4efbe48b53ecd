use Rattle.std.proofs.Common.{◌≡◌, ◌++◌, length, drop}
use Rattle.decision_board.proofs.board.hand_over.Given as goal

abbrev pub invariant-loop-entry : goal.invariant-loop-entry
invariant-loop-entry g l = (l.writer.desk ≡ l.fn.writer.desk) × (drop l.writer.behind l.writer.log.items ++ l.waiting.items ≡ drop l.fn.writer.behind l.fn.writer.log.items ++ l.fn.waiting.items)

abbrev pub decreases-loop-entry : goal.decreases-loop-entry
decreases-loop-entry g l = length l.waiting.items
