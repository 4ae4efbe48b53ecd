use Rattle.std.proofs.Common.{◌≡◌, ◌∙◌, true, ap, sym, subst}
use Rattle.group_commit.specs.Desk.{DeskView, DeskKept, IsHere}
use Rattle.group_commit.specs.Ticket.{TicketView, shown}
use Rattle.rows.proofs.session.stage.redeem.Goals as goal

-- it is open as before on the closed node, which so can't call it foreign
pub unreachable-requires : goal.unreachable-requires
unreachable-requires c =
    let desk = c.close.new.self.desk.view in
    let here = c.requires.«open» in
    let closed : desk ≡ record c.args.node.now.desk.view { closed = true } =
    ap (λ (d : DeskKept). d.view) c.close.ensures.next ∙ ap (λ (d : DeskKept). record d.view { closed = true }) c.in-Err.ensures.redeemed.same in
    let open_then : IsHere desk (shown c.args.ticket) here.0 = subst (λ (d : DeskView). IsHere d (shown c.args.ticket) here.0) (sym closed) (record { node = here.1.node; run = here.1.run; own = here.1.own; question = here.1.question }) in
    c.in-Err-forfeit.ensures.forfeited.foreign.1 here.0 (subst (λ (t : TicketView). IsHere desk t here.0) (sym c.in-Err.ensures.redeemed.back) open_then)
