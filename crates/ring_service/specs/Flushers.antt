-- What contracts see of a flusher.
use Rattle.std.specs.Prelude.{Bool, List, ◌++◌}
use Rattle.std.specs.declared.sync.ledger.Ledger as ledger
use Rattle.disk_model.specs.declared.device.Device as device
use Rattle.ring_records.specs.declared.notice.Notice.{Notice}
use Rattle.gated_journal.specs.Journal.{device_of}
use Rattle.gated_journal.specs.declared.journal.Journal.{Journal}
use Rattle.decision_board.specs.Boards.{BoardView, published, pending, in_rounds}
use Rattle.commit_hub.specs.declared.ledgers.NodeLedger as node
use Rattle.commit_hub.specs.Holders.{known_by, view_by}
use Rattle.group_commit.specs.Next.{Durable}
use Rattle.ring_service.specs.declared.flusher.Flusher.{Flusher}

module _ {V J A : Type 0} {v : device.Ghosts V} {a : node.Ghosts A} {la : ledger.Ghosts A} where
  abbrev pub journal_of : Flusher V J A v a la → Journal V v
  journal_of flusher = flusher.journal

  abbrev pub device_in : Flusher V J A v a la → V
  device_in flusher = device_of (journal_of flusher)

  -- what of its node is durable: the inputs since the hub's opening, and the area in use
  abbrev pub known_to : Flusher V J A v a la → Durable
  known_to flusher = known_by flusher.tie

  -- the board: what is published, what it took since, and how many growths it was refused
  abbrev pub board_of : Flusher V J A v a la → BoardView
  board_of flusher = flusher.board

  -- the notices that the board could not take yet
  abbrev pub owed_of : Flusher V J A v a la → List Notice
  owed_of flusher = in_rounds flusher.owed.items

  -- all notices that it was told of, in order: published, taken by the board, and owed
  abbrev pub told_to : Flusher V J A v a la → List Notice
  told_to flusher = published (board_of flusher) ++ (pending (board_of flusher) ++ owed_of flusher)

  -- all that its board took is known to be published
  abbrev pub is_published : Flusher V J A v a la → Bool
  is_published flusher = flusher.is_published

  -- it has seen its hub closed, with all that it accepted durable
  abbrev pub is_done : Flusher V J A v a la → Bool
  is_done flusher = (view_by flusher.tie).done

  -- the device failed with one of its batches, or it goes on no more
  abbrev pub has_ended : Flusher V J A v a la → Bool
  has_ended flusher = flusher.has_ended
