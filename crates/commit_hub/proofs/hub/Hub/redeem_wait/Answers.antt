use Rattle.std.proofs.Common.{sym, ap, ◌∙◌}
use Rattle.ring_records.specs.Member.{Member}
use Rattle.group_commit.specs.Ticket.{TicketView}
use Rattle.commit_hub.proofs.Requests.{failed_own}
use Rattle.commit_hub.proofs.hub.Hub.redeem_wait.Goals as goal

pub returns-in-Err-clause-failed : goal.returns-in-Err-clause-failed
returns-in-Err-clause-failed g c failed =
    let locked = c.deref_mut.result.now.locked in
    sym (ap (λ (t : TicketView). t.node) c.loop.invariant.1) ∙ (failed_own locked.shared.desk _ _ c.in-Err.ensures.redeemed.refusal failed ∙ ap (λ (m : Member). m.node) locked.of)
