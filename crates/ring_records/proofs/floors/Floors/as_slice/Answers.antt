use Rattle.std.proofs.Common.{sym, ap, ◌∙◌}
use Rattle.ring_records.specs.Floors.{floor_keys}
use Rattle.ring_records.proofs.FloorsInOrder.{keys-floored}
use Rattle.ring_records.proofs.floors.Floors.as_slice.Goals as goal

pub returns-clause-values : goal.returns-clause-values
returns-clause-values c = ap floor_keys (sym c.self.view_is) ∙ (keys-floored c.self.inside.items.items c.self.invariant ∙ sym c.deref.ensures.value)
