use Rattle.std.proofs.Common.{◌≡◌, ◌-◌}
use Rattle.ring_records.specs.RecordReading.{key_at}
use Rattle.ring_records.specs.SnapshotRead.{items_at, behind_these}
use Rattle.ring_records.proofs.snapshot_read.keys_of.Given as goal

abbrev pub invariant-loop-i : goal.invariant-loop-i
invariant-loop-i l = items_at key_at l.count l.bytes ≡ behind_these l.keys.items (items_at key_at (l.count - l.i) l.rest)
