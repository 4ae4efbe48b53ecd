use Rattle.ring_records.proofs.StatesInOrder.{RiseTo}
use Rattle.ring_records.proofs.snapshot_fits.are_rising.Given as goal

abbrev pub invariant-loop-i : goal.invariant-loop-i
invariant-loop-i l = RiseTo l.states l.i
