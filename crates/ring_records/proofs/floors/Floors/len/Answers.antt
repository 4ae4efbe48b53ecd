use Rattle.std.proofs.Common.{length, sym, ap, ◌∙◌}
use Rattle.ring_records.proofs.FloorsInOrder.{len-floors}
use Rattle.ring_records.proofs.floors.Floors.len.Goals as goal

pub returns : goal.returns
returns c = ap length (sym c.as_slice-floors.ensures.values) ∙ len-floors c.args.self.now
