use Rattle.std.proofs.Common.{refl, ap, sym, ◌∙◌}
use Rattle.node_core.specs.FreeCore.{FreeView}
use Rattle.ring_records.proofs.Sound.{summary-none}
use Rattle.ring_audit.proofs.Kept.{sent_none, allowed_none}
use Rattle.ring_audit.proofs.part.Part.new.Goals as goal

pub returns-clause-stands : goal.returns-clause-stands
returns-clause-stands c = record {
  node = refl;
  me = ap (λ (v : FreeView). v.me) c.new.ensures;
  ring = ap (λ (v : FreeView). v.size) c.new.ensures;
  knows = ap (λ (v : FreeView). v.known) c.new.ensures ∙ sym (summary-none c.args.node);
  allowed = allowed_none c.args.node c.args.n;
  sent = c.new-2.ensures.items ∙ sent_none c.args.node;
}
