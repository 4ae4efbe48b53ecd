use Rattle.ring_records.proofs.Snapshots.{length-snapshot, length-empty}
use Rattle.ring_records.proofs.SnapshotWhole.{one-spelled}
use Rattle.ring_records.proofs.laws.snapshots.Goals as goal

pub returns-clause-one : goal.returns-clause-one
returns-clause-one c = one-spelled

pub returns-clause-len : goal.returns-clause-len
returns-clause-len c = length-snapshot

pub returns-clause-none : goal.returns-clause-none
returns-clause-none c = length-empty
