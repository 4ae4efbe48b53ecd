use Rattle.std.proofs.Common.{rules, ◌≡◌, nat_le, length, ap, sym, subst, ◌∙◌}
use Rattle.ring_records.specs.Emission.{sent}
use Rattle.ring_records.specs.History.{credit}
use Rattle.ring_records.specs.Member.{Member}
use Rattle.ring_records.specs.States.{durable_in}
use Rattle.group_commit.specs.Desk.{DeskKept, seen}
use Rattle.group_commit.specs.Past.{IsPast}
use Rattle.group_commit.proofs.Seen.{all_seen}
use Rattle.ring_node.specs.Node.{NodeView, is_credited}
use Rattle.ring_node.proofs.node.RingNode.is_credited.Goals as goal

pub returns : goal.returns
returns c =
    let past = c.self.inside.past.items in
    let desk = seen past c.self.inside.node.desk in
    let behind = subst (λ (d : DeskKept). IsPast d.view.member d.opening past) (sym c.desk.ensures) c.self.invariant.behind in
    let known = all_seen past c.desk.result.now behind c.credit.ensures.known in
    let credited : c.credit.result ≡ credit desk.state.inputs = c.credit.ensures.value ∙ (λ i. (known i).credit) ∙ ap (λ (d : DeskKept). credit (seen past d).state.inputs) c.desk.ensures in
    let count : c.len.result ≡ length c.self.inside.messages.items = search rules in
    let sends = c.self.invariant.whole.sends ∙ ap (λ (k : Member). sent k.node (durable_in desk.state)) (sym c.self.invariant.whole.is) in
    let counted : c.len.result ≡ length (sent desk.member.node (durable_in desk.state)) = count ∙ ap length sends in
    (λ i. nat_le (credited i) (counted i)) ∙ ap (λ (v : NodeView). is_credited v) c.self.view_is
