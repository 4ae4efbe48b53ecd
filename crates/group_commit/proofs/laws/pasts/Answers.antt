use Rattle.std.proofs.Common.{refl}
use Rattle.ring_records.specs.Summary.{empty}
use Rattle.group_commit.specs.Desk.{first_base}
use Rattle.group_commit.proofs.New.{no_past, seen_none, no_unlawful}
use Rattle.group_commit.proofs.laws.pasts.Goals as goal

pub returns : goal.returns
returns c = record {
  lawful = λ m r past why is lawful un. no_unlawful m r.base (first_base r.layout r.epoch r.base) past r.inputs why refl is lawful un;
  none = λ m. no_past m empty refl;
  whole = seen_none;
}
