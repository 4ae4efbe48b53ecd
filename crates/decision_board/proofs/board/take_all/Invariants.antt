use Rattle.std.proofs.Common.{◌≡◌, take}
use Rattle.decision_board.specs.Posts.{IsPosted}
use Rattle.decision_board.specs.Stores.{state_of}
use Rattle.decision_board.proofs.board.take_all.Given as goal

-- the history is what was taken so far, and both copies stand for it
abbrev pub invariant-loop-notice : goal.invariant-loop-notice
invariant-loop-notice g l =
    let so_far = take l.notice-index l.notices in
    (l.whole.right.history ≡ g.J.Naming.history) × (l.whole.right.notices ≡ so_far) × IsPosted g.J.Naming.history l.first × (l.first.front.mark.notices ≡ so_far) × (state_of l.second ≡ state_of l.first)
