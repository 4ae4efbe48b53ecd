use Rattle.std.proofs.Common.{rules, [], ◌≡◌, ◌∙◌, ap, sym, subst}
use Rattle.group_commit.specs.Desk.{DeskKept}
use Rattle.ring_node.specs.Held.{AreHeld}
use Rattle.ring_node.proofs.Queue.{none_open}
use Rattle.ring_node.proofs.Serving.{oldest, is_here, others_held}
use Rattle.ring_node.proofs.held.forfeit_all.Goals as goal

pub returns-clause-next : goal.returns-clause-next
returns-clause-next c =
    let l = c.loop-first in
    let desk = l.node.desk.view in
    let none : l.held.items ≡ [] = search rules in
    l.invariant.desk ∙ ap (λ ts. record c.args.node.now.desk { view = record c.args.node.now.desk.view { tickets = ts } }) (none_open desk.member.node desk.run l.invariant.held.0 l.invariant.held.1 desk.tickets l.held.items none l.invariant.held.2)

pub forfeit-requires-clause-here : goal.forfeit-requires-clause-here
forfeit-requires-clause-here c =
    let l = c.loop-first in
    let held = l.invariant.held in
    ((oldest l.node.desk.view held.0 held.1 l.held.items held.2 c.in-Some.first c.pop_front.new.self.items c.in-Some.ensures.items).kept, is_here l.node.desk.view held.0 held.1 l.held.items held.2 c.in-Some.first c.pop_front.new.self.items c.in-Some.ensures.items)

pub loop-first-preserved : goal.loop-first-preserved
loop-first-preserved c =
    let l = c.loop-first in
    let held = l.invariant.held in
    let made = c.forfeit.ensures in
    let left = others_held l.node.desk.view held.0 held.1 l.held.items held.2 c.in-Some.first c.pop_front.new.self.items c.in-Some.ensures.items in
    record {
      held = (held.0, held.1, subst (λ (d : DeskKept). AreHeld d.view.member.node d.view.run held.0 held.1 d.view.tickets c.pop_front.new.self.items) (sym made.next) left);
      closed = ap (λ (d : DeskKept). d.view.closed) made.next ∙ l.invariant.closed;
      desk = made.next ∙ (λ i. record (l.invariant.desk i) { view = record (l.invariant.desk i).view { tickets = (sym made.next i).view.tickets } });
      device = made.device ∙ l.invariant.device;
    }
