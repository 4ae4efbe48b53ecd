use Rattle.std.proofs.Common.{ℕ, ◌+◌, inl, inr, ap, sym, subst, ◌∙◌}
use Rattle.ring_records.specs.Admission.{newest}
use Rattle.ring_records.specs.Member.{Member}
use Rattle.gated_journal.specs.Areas.{AllReadAs}
use Rattle.gated_journal.specs.Reading.{fresh_area}
use Rattle.gated_journal.specs.Unread.{IsFault}
use Rattle.group_commit.specs.Desk.{DeskKept, known_all}
use Rattle.node_store.specs.Node.{desk_of, device_of}
use Rattle.node_store.proofs.Flight.{objects as told_by}
use Rattle.ring_start.proofs.Renewed.{works, objects, unbegun, objected, broken, in_memory}
use Rattle.ring_start.proofs.open_node.OpenNode.renew.Goals as goal

pub returns-in-Ok-clause-written : goal.returns-in-Ok-clause-written
returns-in-Ok-clause-written g c = λ _.
    let old = desk_of c.args.self.node in
    let epoch = ap (λ (d : DeskKept). d.view.state.base.epoch) c.in-Ok.ensures.next in
    let read = λ (m : Member) (k : ℕ). AllReadAs m (g.V.Device.disk (device_of c.checkpoint.new.self)) (fresh_area newest k (known_all old)) in
    record {
      later = epoch;
      holds = subst (read _) (sym epoch) (subst (λ (m : Member). read m (old.view.state.base.epoch + 1)) (sym (ap (λ (d : DeskKept). d.view.member) c.in-Ok.ensures.next)) c.in-Ok.ensures.durable);
    }

pub returns-in-Limit-clause-kept : goal.returns-in-Limit-clause-kept
returns-in-Limit-clause-kept g c = λ _.
    let same = c.in-Err.ensures.same (unbegun _ c.in-Limit.is) in
    record {
      desk = same.0;
      device = same.1;
      objection = objected _ _ _ _ c.in-Err.ensures.cause c.in-Limit.is;
    }

pub returns-in_default : goal.returns-in_default
returns-in_default g c =
    let node = c.args.self.node in
    let working = works node.desk.view.closed node.desk.view.failed c.args.self.open in
    let told = broken _ _ _ c.in-Err.refusal (λ is. objects _ _ working (told_by node.desk node.journal node.stands c.in-Err.refusal is)) c.in_default.not-Limit c.in_default.not-Full c.in-Err.ensures.cause in
    record {
      goes_on = tt;
      written = tt;
      kept = tt;
      any_moment = tt;
      refusal = elim told [
        | inl fault ↦ inl (subst (λ device. IsFault (g.V.Device.count (device_of node)) (g.V.Device.count device) c.in-Err.refusal) (sym c.end.ensures) fault)
        | inr memory ↦ inr (memory, c.end.ensures ∙ (c.in-Err.ensures.same (inr (inr (inr memory)))).1)
      ];
      in_reach = λ reach. in_memory _ _ c.in-Err.refusal (c.in-Err.ensures.in_reach reach) told;
    }
