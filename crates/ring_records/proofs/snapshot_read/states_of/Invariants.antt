use Rattle.std.proofs.Common.{◌≡◌, ◌-◌}
use Rattle.ring_records.specs.SnapshotRead.{state_at, items_at, behind_these}
use Rattle.ring_records.proofs.snapshot_read.states_of.Given as goal

abbrev pub invariant-loop-i : goal.invariant-loop-i
invariant-loop-i l = items_at (state_at l.n) l.count l.bytes ≡ behind_these l.states.items (items_at (state_at l.n) (l.count - l.i) l.rest)
