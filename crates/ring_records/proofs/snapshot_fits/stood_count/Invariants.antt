use Rattle.std.proofs.Common.{◌≡◌, ◌≤◌, take}
use Rattle.std.specs.List.{count_by}
use Rattle.ring_records.specs.Snapshot.{has_stood}
use Rattle.ring_records.proofs.snapshot_fits.stood_count.Given as goal

abbrev pub invariant-loop-state : goal.invariant-loop-state
invariant-loop-state l = (l.count ≡ count_by has_stood (take l.state-index l.states)) × (l.count ≤ l.state-index)
