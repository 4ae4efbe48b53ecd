use Rattle.std.proofs.Common.{◌≡◌, List, Some, ap, ◌∙◌, subst}
use Rattle.std.specs.Prelude.{IsTrue, ◌↔◌, slice_get}
use Rattle.ring_records.specs.declared.msg.Msg.{Msg}
use Rattle.ring_records.specs.declared.summary.Summary.{Summary}
use Rattle.ring_audit.specs.Placement.{lists}
use Rattle.ring_audit.proofs.Steps.{part_at, carried_stand, carried_take, carried_acked, carried_retire}
use Rattle.ring_audit.proofs.placing.Placing.is_carried.Goals as goal

pub predecessor-requires-clause-limit : goal.predecessor-requires-clause-limit
predecessor-requires-clause-limit c = c.requires.placing.most

pub successor-requires-clause-limit : goal.successor-requires-clause-limit
successor-requires-clause-limit c = c.requires.placing.most

pub returns-in-Stand : goal.returns-in-Stand
returns-in-Stand c = carried_stand c.args.self.now.n c.args.self.now.run.items c.args.node c.in-Stand.key c.in-Stand.bid c.args.input.now c.in-Stand.is

pub returns-in-Take : goal.returns-in-Take
returns-in-Take c =
    let p = part_at (lists c.args.histories.now) c.args.self.now c.predecessor.result c.at.result.now c.requires.placing c.at.ensures.low c.predecessor.ensures.inside c.at.ensures.value in
    carried_take c.args.self.now.n c.args.self.now.run.items c.args.node c.predecessor.result c.in-Take.no c.in-Take.msg c.args.input.now c.has_sent.result c.in-Take.is c.predecessor.ensures.value
    (subst (λ (l : List Msg). IsTrue c.has_sent.result ↔ (slice_get l c.in-Take.no ≡ Some c.in-Take.msg)) p.stands.sent c.has_sent.ensures)

pub returns-in-Acked : goal.returns-in-Acked
returns-in-Acked c =
    let p = part_at (lists c.args.histories.now) c.args.self.now c.successor.result c.at-in-Acked.result.now c.requires.placing c.at-in-Acked.ensures.low c.successor.ensures.inside c.at-in-Acked.ensures.value in
    carried_acked c.args.self.now.n c.args.self.now.run.items c.args.node c.successor.result c.in-Acked.upto c.args.input.now c.taken.result c.in-Acked.is c.successor.ensures.value
    (c.taken.ensures ∙ ap (λ (k : Summary). k.taken) p.stands.knows)

pub returns-in-Retire : goal.returns-in-Retire
returns-in-Retire c = carried_retire c.args.self.now.n c.args.self.now.run.items c.args.node c.in-Retire.group c.in-Retire.floor c.args.input.now c.in-Retire.is
