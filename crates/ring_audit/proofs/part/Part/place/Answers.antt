use Rattle.std.proofs.Common.{[], ◌∙◌, ap}
use Rattle.node_core.specs.FreeCore.{FreeView}
use Rattle.node_core.specs.declared.effects.Effects.{Effects}
use Rattle.ring_records.specs.Allowed.{IsAllowed}
use Rattle.ring_records.specs.Known.{stepped}
use Rattle.ring_records.proofs.Lists.{EachAfter-push}
use Rattle.ring_records.proofs.RetireStep.{stepped-known}
use Rattle.ring_audit.proofs.Kept.{may_apply, allowed_here, carried_here, sent_next}
use Rattle.ring_audit.proofs.part.Part.place.Goals as goal

pub apply-requires : goal.apply-requires
apply-requires c = may_apply c.args.self.now c.args.input c.requires.allowed

pub returns-clause-stands : goal.returns-clause-stands
returns-clause-stands c = λ n i h s.
    let a = allowed_here n i c.args.self.now h c.args.input s (may_apply c.args.self.now c.args.input c.requires.allowed) in
    record {
      node = s.node;
      me = ap (λ (v : FreeView). v.me) c.in-Ok.ensures.steps ∙ s.me;
      ring = ap (λ (v : FreeView). v.size) c.in-Ok.ensures.steps ∙ s.ring;
      knows = ap (λ (v : FreeView). v.known) c.in-Ok.ensures.steps
          ∙ ((λ t. stepped (s.me t) (s.knows t) c.args.input) ∙ stepped-known i n h c.args.input s.allowed a);
      allowed = EachAfter-push (IsAllowed i n) [] h c.args.input s.allowed a;
      sent = c.in_ok-keep-in-Ok.ensures
          ∙ sent_next i h c.args.input c.in-Ok.effects.carry c.args.self.now.sent.items s.sent
          (ap (λ (e : Effects). e.carry) c.in-Ok.ensures.brings ∙ carried_here n i c.args.self.now h c.args.input s);
    }
