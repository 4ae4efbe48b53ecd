use Rattle.std.proofs.Common.{◌≡◌, ◌-◌}
use Rattle.ring_records.specs.SnapshotRead.{msg_at, items_at, behind_these}
use Rattle.ring_records.proofs.snapshot_read.messages_of.Given as goal

abbrev pub invariant-loop-i : goal.invariant-loop-i
invariant-loop-i l = items_at (msg_at l.n) l.count l.bytes ≡ behind_these l.messages.items (items_at (msg_at l.n) (l.count - l.i) l.rest)
