use Rattle.ring_post.specs.Intakes.{IsFree}
use Rattle.ring_server.proofs.inbox.take_all.Given as goal

-- it hears on
abbrev pub invariant-loop : goal.invariant-loop
invariant-loop g l = IsFree l.inbox.intake
