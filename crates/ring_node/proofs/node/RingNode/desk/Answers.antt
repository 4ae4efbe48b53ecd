use Rattle.std.proofs.Common.{◌+◌, ◌≤◌, ◌∙◌, length, length-append, ap, sym, subst}
use Rattle.group_commit.specs.Desk.{DeskKept, seen}
use Rattle.ring_node.specs.Held.{IsShownBy}
use Rattle.ring_node.specs.Node.{NodeView}
use Rattle.ring_node.proofs.Queue.{as_many}
use Rattle.ring_node.proofs.Serving.{count_past, shown_by, within_served}
use Rattle.ring_node.proofs.node.RingNode.desk.Goals as goal

pub returns-clause-member : goal.returns-clause-member
returns-clause-member c = ap (λ (d : DeskKept). d.view.member) c.desk.ensures ∙ ap (λ (v : NodeView). v.member) c.self.view_is

pub returns-clause-inputs : goal.returns-clause-inputs
returns-clause-inputs c =
    ap (λ (d : DeskKept). d.opening.inputs + length d.view.state.inputs) c.desk.ensures ∙ (count_past c.self.inside.past.items c.self.inside.node.desk _ c.self.invariant.behind ∙ (sym (length-append c.self.inside.past.items c.self.inside.node.desk.view.state.inputs) ∙ ap (λ (v : NodeView). length v.inputs) c.self.view_is))

pub returns-clause-durable : goal.returns-clause-durable
returns-clause-durable c =
    ap (λ (d : DeskKept). d.opening.inputs + d.view.state.durable) c.desk.ensures ∙ (count_past c.self.inside.past.items c.self.inside.node.desk _ c.self.invariant.behind ∙ ap (λ (v : NodeView). v.durable) c.self.view_is)

pub returns-clause-within : goal.returns-clause-within
returns-clause-within c = subst (λ (v : NodeView). v.durable ≤ length v.inputs) c.self.view_is (within_served _ _ _ c.self.invariant.whole.served)

pub returns-clause-shows : goal.returns-clause-shows
returns-clause-shows c =
    let desk = seen c.self.inside.past.items c.self.inside.node.desk in
    subst (λ (v : NodeView). IsShownBy v.member v.inputs v.durable c.desk.result.now) c.self.view_is
    (subst (IsShownBy desk.member desk.state.inputs desk.state.durable) (sym c.desk.ensures) (shown_by c.self.inside.past.items c.self.inside.node.desk c.self.invariant.behind))

pub returns-clause-tickets : goal.returns-clause-tickets
returns-clause-tickets c =
    let desk = c.self.inside.node.desk.view in
    ap (λ (d : DeskKept). length d.view.tickets) c.desk.ensures ∙ (as_many desk.member.node desk.run 0 _ desk.tickets c.self.inside.held.items c.self.invariant.whole.served.held ∙ ap (λ (v : NodeView). length v.held) c.self.view_is)
