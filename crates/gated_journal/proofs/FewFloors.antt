-- A short snapshot tells few floors.
use Rattle.std.proofs.Common.{◌<◌, ◌≤◌, ◌^◌, List, [], ◌∷◌, length, arith}
use Rattle.std.specs.FinMap as fin
use Rattle.std.specs.List.{sum_by}
use Rattle.std.proofs.lemmas.List.Sums.{sum_by-cons}
use Rattle.ring_records.specs.declared.key.Key.{Key}
use Rattle.ring_records.specs.declared.summary.Summary.{Summary}
use Rattle.ring_records.specs.Admission.{floor_len, newest, snapshot_len}
use Rattle.ring_records.specs.Floors.{floor_keys}
use Rattle.ring_records.proofs.FloorsInOrder.{len-floors}
use Rattle.ring_records.proofs.Snapshots.{length-parts}

counted : (floors : List Key) → length floors ≤ sum_by floor_len floors
counted [] = omega arith
counted (floor ∷ floors) = omega (arith, sum_by-cons floor_len floor floors, counted floors)

pub few_floors : (s : Summary) → snapshot_len newest s < 2 ^ 32 → fin.len s.floors < 2 ^ 32
few_floors s short = omega (arith, short, length-parts newest s (omega arith), counted (floor_keys s.floors), len-floors s.floors)
