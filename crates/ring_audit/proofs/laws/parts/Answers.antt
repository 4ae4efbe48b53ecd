use Rattle.std.proofs.Common.{ap}
use Rattle.ring_records.specs.declared.summary.Summary.{Summary}
use Rattle.ring_audit.proofs.laws.parts.Goals as goal

pub returns : goal.returns
returns c = record {
  placed = λ n i kept h s. ap (λ (k : Summary). k.inputs) s.knows;
  taken = λ n i kept h s. ap (λ (k : Summary). k.taken) s.knows;
  sent = λ n i kept h s. s.sent;
}
