use Rattle.std.specs.Prelude.{◌≡◌}
use Rattle.group_commit.specs.Ticket.{shown}
use Rattle.commit_hub.proofs.hub.Hub.redeem_wait.Given as goal

abbrev pub invariant-loop : goal.invariant-loop
invariant-loop g l =
    ((goal.iterator-loop g).can_next l.iterator' × (goal.iterator-loop g).is_finite l.iterator') × (shown l.ticket ≡ shown l.fn.ticket)
