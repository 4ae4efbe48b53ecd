use Rattle.ring_records.specs.FloorLists.{floored}
use Rattle.ring_records.proofs.FloorSearch.{LiveTo}
use Rattle.ring_records.proofs.snapshot_fits.are_live.Given as goal

abbrev pub invariant-loop-state : goal.invariant-loop-state
invariant-loop-state l = LiveTo (floored l.floors) l.states l.state-index
