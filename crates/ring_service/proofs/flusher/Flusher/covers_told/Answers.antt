use Rattle.std.proofs.Common.{append_assoc}
use Rattle.ring_records.proofs.Prefixes.{prefix_trans}
use Rattle.decision_board.specs.Boards.{pending, published}
use Rattle.ring_service.specs.Flushers.{board_of, owed_of, told_to}
use Rattle.ring_service.proofs.flusher.Flusher.covers_told.Goals as goal

pub returns-clause-begins : goal.returns-clause-begins
returns-clause-begins g c =
    let old = c.args.self.now in
    prefix_trans c.args.told.now _ (told_to old) c.covers.ensures.begins (owed_of old, append_assoc (published (board_of old)) (pending (board_of old)) (owed_of old))
