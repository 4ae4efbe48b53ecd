use Rattle.std.proofs.Common.{rules, ◌≡◌, ◌≤◌, ◌<◌, ◌+◌, ℕ, ◌∷◌, [], true, ap, subst, sym, ◌∙◌, refl}
use Rattle.std.specs.List.{filter}
use Rattle.group_commit.specs.Desk.{DeskKept, seen, ended, IsHere}
use Rattle.group_commit.specs.Ticket.{TicketView, shown}
use Rattle.ring_node.specs.Node.{NodeView}
use Rattle.ring_node.specs.Open.{Open, is_due}
use Rattle.ring_node.specs.Held.{HeldView, MatchFirst, shown_with, reach_of}
use Rattle.ring_node.proofs.Queue.{none_shown}
use Rattle.ring_node.proofs.Ring.{by_name, keeps_past, ends}
use Rattle.ring_node.proofs.Serving.{count_past, here_since, here_whole, sealed, oldest, is_here, early, first_shown, ends_due, not_sealed}
use Rattle.ring_node.proofs.node.RingNode.release.Goals as goal
use Rattle.ring_node.proofs.node.RingNode.release.Goals.{In-Ok}

pub returns-then-not-is_due-clause-none : goal.returns-then-not-is_due-clause-none
returns-then-not-is_due-clause-none c =
    let no = subst (λ (d : ℕ). MatchFirst (λ h. d < h.ticket.number) c.self.inside.held.items) (c.durable.ensures ∙ count_past c.self.inside.past.items c.self.inside.node.desk _ c.self.invariant.behind) (c.is_due.ensures.no c.if-not-is_due.true) in
    (subst (λ (v : NodeView). filter (is_due v.durable) v.held ≡ []) c.self.view_is (sealed _ _ _ c.self.invariant.whole.served no), refl)

pub returns-in_default-clause-none : goal.returns-in_default-clause-none
returns-in_default-clause-none c =
    let desk = seen c.self.inside.past.items c.self.inside.node.desk in
    let none : c.self.inside.held.items ≡ [] = search rules in
    let shown = none_shown desk.member.node desk.run 0 _ desk.tickets c.self.inside.held.items none c.self.invariant.whole.served.held in
    (subst (λ (v : NodeView). filter (is_due v.durable) v.held ≡ []) c.self.view_is (ap (filter (is_due desk.state.durable)) shown), search rules)

pub unreachable-requires : goal.unreachable-requires
unreachable-requires c =
    let desk = seen c.self.inside.past.items c.self.inside.node.desk in
    let queue = c.in-Some.ensures.items in
    let same : c.in-Some.first.ticket ≡ shown c.first.inside.ticket = ap (λ (x : HeldView). x.ticket) (sym c.first.view_is) in
    let due = subst (λ (d : ℕ). MatchFirst (λ x. x.ticket.number ≤ d) c.self.inside.held.items) (c.durable.ensures ∙ count_past c.self.inside.past.items c.self.inside.node.desk _ c.self.invariant.behind) (c.is_due.ensures.yes c.if-not-is_due.false) in
    let kept = (oldest _ _ _ _ c.self.invariant.whole.served.held c.in-Some.first c.pop_front.new.self.items queue).kept in
    let here = subst (λ (t : TicketView). IsHere desk t kept) same (is_here _ _ _ _ c.self.invariant.whole.served.held c.in-Some.first c.pop_front.new.self.items queue) in
    let low : kept.answer.number ≤ c.self.inside.node.desk.opening.inputs + c.self.inside.node.desk.view.state.durable =
    subst (λ (d : ℕ). kept.answer.number ≤ d) (sym (count_past c.self.inside.past.items c.self.inside.node.desk _ c.self.invariant.behind)) (early _ _ _ c.self.invariant.whole.served c.in-Some.first c.pop_front.new.self.items queue due) in
    let past = c.self.inside.past.items in
    not_sealed c.self.inside.node.desk (shown c.first.inside.ticket) kept _ (here_since past c.self.inside.node.desk _ _ here) low c.in-Err.ensures.redeemed.refusal

-- what is left when the ticket of the queue ended
left : (c : In-Ok) → c.redeem.new.self.desk ≡ record c.self.inside.node.desk { view = ended c.in-Some.first.ticket.own c.self.inside.node.desk.view }
left c = c.in-Ok.ensures.redeemed.next ∙ ap (λ (x : HeldView). record c.self.inside.node.desk { view = ended x.ticket.own c.self.inside.node.desk.view }) c.first.view_is

pub invariant_of-self-2 : goal.invariant_of-self-2
invariant_of-self-2 c =
    let here = (goal.at.invariant_of-self-2 c).In-Ok in
    let past = c.self.inside.past.items in
    let behind = keeps_past past c.self.inside.node.desk c.redeem.new.self.desk _ (left here) refl c.self.invariant.behind in
    by_name _ _ _ _ _ _ _ _ _ _ behind (ap (seen past) (left here)) (ap reach_of c.redeem.ensures.device) refl refl (ends _ _ _ _ _ c.self.invariant.whole c.in-Some.first c.pop_front.new.self.items c.in-Some.ensures.items)

pub returns-clause-some : goal.returns-clause-some
returns-clause-some c =
    let desk = seen c.self.inside.past.items c.self.inside.node.desk in
    let h = c.in-Some.first in
    let rest = c.pop_front.new.self.items in
    let queue = c.in-Some.ensures.items in
    let ticket : shown c.first.inside.ticket ≡ h.ticket = ap (λ (x : HeldView). x.ticket) c.first.view_is in
    let serial : h.serial ≡ c.first.inside.serial = ap (λ (x : HeldView). x.serial) (sym c.first.view_is) in
    let answered = c.in-Ok.stub in
    let there = subst (λ (t : TicketView). IsHere desk t answered) ticket (here_whole c.self.inside.past.items c.self.inside.node.desk _ _ c.in-Ok.ensures.redeemed.released) in
    let due = subst (λ (d : ℕ). MatchFirst (λ x. x.ticket.number ≤ d) c.self.inside.held.items) (c.durable.ensures ∙ count_past c.self.inside.past.items c.self.inside.node.desk _ c.self.invariant.behind) (c.is_due.ensures.yes c.if-not-is_due.false) in
    let named : ◌≡◌ {A = Open} (record { serial = h.serial; kept = answered }) (record { serial = c.first.inside.serial; kept = answered }) = λ i. record { serial = serial i; kept = answered } in
    let after : shown_with (ended h.ticket.own desk).tickets rest ≡ shown_with c.redeem.new.self.desk.view.tickets rest = ap (λ (d : DeskKept). shown_with d.view.tickets rest) (sym (left (goal.at.returns-clause-some c).In-Ok)) in
    let shows = first_shown _ _ _ _ c.self.invariant.whole.served.held h rest queue answered there in
    let is = ends_due _ _ _ c.self.invariant.whole.served h rest queue answered there due in (
      ap (λ (v : NodeView). v.held) (sym c.self.view_is) ∙ shows ∙ (λ i. named i ∷ after i),
      subst (λ (o : Open). is_due c.args.self.now.durable o ≡ true) named (subst (λ (v : NodeView). is_due v.durable (record { serial = h.serial; kept = answered }) ≡ true) c.self.view_is is),
    )
