use Rattle.ring_records.proofs.CountedStands.{stands-counted}
use Rattle.ring_records.proofs.laws.stands_counted.Goals as goal

pub returns : goal.returns
returns c = stands-counted
