use Rattle.std.proofs.Common.{sym, subst}
use Rattle.std.proofs.lemmas.Grind.{not_there}
use Rattle.group_commit.specs.Desk.{DeskKept, IsHere}
use Rattle.group_commit.specs.Ticket.{shown}
use Rattle.rows.proofs.session.stage.close.Goals as goal

-- it is open on the node, and so on the closed one, which can't call it foreign
pub unreachable-requires : goal.unreachable-requires
unreachable-requires c =
    let ticket = shown c.in-Some.ticket in
    not_there (c.requires c.in-Some.ticket c.in-Some.is)
    (λ there.
    let here = subst (λ (d : DeskKept). IsHere d.view ticket there.0) (sym c.close.ensures.next) (record { node = there.1.node; run = there.1.run; own = there.1.own; question = there.1.question }) in
    c.in-Err.ensures.forfeited.foreign.1 there.0 here)
