use Rattle.std.proofs.Common.{ℕ, arith, sym, ap}
use Rattle.ring_records.specs.Admission.{newest}
use Rattle.ring_records.proofs.Snapshots.{length-empty}
use Rattle.ring_records.proofs.base.Base.fresh.Goals as goal

pub returns : goal.returns
returns c = ap (λ (k : ℕ). record { layout = 3; epoch = 1; inputs = 0; bytes = k }) (sym (length-empty newest (omega arith)))
