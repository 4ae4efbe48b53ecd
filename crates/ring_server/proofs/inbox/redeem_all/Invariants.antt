use Rattle.std.specs.Prelude.{length}
use Rattle.ring_post.specs.Intakes.{IsFree, tickets_of}
use Rattle.ring_server.proofs.inbox.redeem_all.Given as goal

abbrev pub invariant-loop-ticket : goal.invariant-loop-ticket
invariant-loop-ticket g l = IsFree l.fn.inbox.intake → IsFree l.inbox.intake

abbrev pub decreases-loop-ticket : goal.decreases-loop-ticket
decreases-loop-ticket g l = length (tickets_of l.inbox.intake)
