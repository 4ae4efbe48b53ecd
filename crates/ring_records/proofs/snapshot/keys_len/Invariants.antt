use Rattle.std.proofs.Common.{◌≡◌, ◌*◌, ◌≤◌, take}
use Rattle.std.specs.List.{sum_by}
use Rattle.ring_records.specs.Admission.{floor_len}
use Rattle.ring_records.proofs.snapshot.keys_len.Given as goal

abbrev pub invariant-loop-floor : goal.invariant-loop-floor
invariant-loop-floor l = (l.len ≡ sum_by floor_len (take l.floor-index l.floors)) × (l.len ≤ 21 * l.floor-index)
