use Rattle.std.proofs.Common.{◌≡◌, ◌∙◌, ap, subst, sym}
use Rattle.group_commit.specs.Desk.{ended, IsHere}
use Rattle.group_commit.specs.Ticket.{TicketView, shown}
use Rattle.ring_node.specs.Held.{HeldView}
use Rattle.ring_node.proofs.held.forfeit.Goals as goal

-- it is open here, so it is not foreign
pub unreachable-requires : goal.unreachable-requires
unreachable-requires c =
    let same : c.args.held.ticket ≡ shown c.held.inside.ticket = ap (λ (h : HeldView). h.ticket) (sym c.held.view_is) in
    c.in-Err.ensures.forfeited.foreign.1 c.requires.here.0 (subst (λ (t : TicketView). IsHere c.args.node.now.desk.view t c.requires.here.0) same c.requires.here.1)

pub returns-clause-next : goal.returns-clause-next
returns-clause-next c = c.in-Ok.ensures.forfeited.next ∙ ap (λ (h : HeldView). record c.args.node.now.desk { view = ended h.ticket.own c.args.node.now.desk.view }) c.held.view_is
