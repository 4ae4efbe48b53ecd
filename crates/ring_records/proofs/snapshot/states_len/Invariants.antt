use Rattle.std.proofs.Common.{◌≡◌, ◌*◌, ◌≤◌, take}
use Rattle.std.specs.List.{sum_by}
use Rattle.ring_records.specs.Admission.{state_len}
use Rattle.ring_records.proofs.snapshot.states_len.Given as goal

abbrev pub invariant-loop-state : goal.invariant-loop-state
invariant-loop-state l = (l.len ≡ sum_by state_len (take l.state-index l.states)) × (l.len ≤ 31 * l.state-index)
