use Rattle.std.proofs.Common.{arith, length, refl, ap, sym, ◌∙◌}
use Rattle.std.specs.List.{sum_by}
use Rattle.ring_records.specs.Admission.{floor_len}
use Rattle.ring_records.proofs.FloorsInOrder.{len-floors}
use Rattle.ring_records.proofs.snapshot.floors_len.Goals as goal

pub returns-then-has_floors-clause-value : goal.returns-then-has_floors-clause-value
returns-then-has_floors-clause-value c =
    let sum = c.keys_len.ensures.value ∙ ap (sum_by floor_len) (sym c.as_slice.ensures.values) in
    let yes = sym c.has_floors.ensures ∙ c.if-has_floors.true in
    rw (yes, sum) refl

pub returns-then-has_floors-clause-bound : goal.returns-then-has_floors-clause-bound
returns-then-has_floors-clause-bound c = omega (arith, c.keys_len.ensures.bound, ap length c.as_slice.ensures.values, len-floors c.args.summary.now.floors)
