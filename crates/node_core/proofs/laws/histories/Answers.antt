use Rattle.std.proofs.Common.{refl}
use Rattle.node_core.proofs.Histories.{carries, leads_by, leads_last, renewed, tells}
use Rattle.node_core.proofs.laws.histories.Goals as goal

pub returns : goal.returns
returns c = record {
  who = λ core base h key s. leads_by core.me core.known h key s.knows;
  latest = λ core base h group led s. leads_last core.me core.known h group led s.knows;
  carry = λ core base h x s. carries core.me core.known h x s.knows;
  told = λ core base h x s. tells core.me core.known h x s.knows;
  renewed = λ core base h epoch s. renewed core _ epoch base h refl s;
}
