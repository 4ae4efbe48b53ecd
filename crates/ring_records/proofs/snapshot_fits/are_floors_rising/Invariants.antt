use Rattle.ring_records.proofs.FloorsInOrder.{FloorsRiseTo}
use Rattle.ring_records.proofs.snapshot_fits.are_floors_rising.Given as goal

abbrev pub invariant-loop-i : goal.invariant-loop-i
invariant-loop-i l = FloorsRiseTo l.floors l.i
