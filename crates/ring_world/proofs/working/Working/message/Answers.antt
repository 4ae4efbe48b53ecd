use Rattle.std.proofs.Common.{◌≤◌, IfSome, subst}
use Rattle.ring_records.specs.Member.{Member}
use Rattle.ring_records.specs.Message.{candidate_of}
use Rattle.ring_world.proofs.working.Working.message.Goals as goal

pub returns-clause-of_ring : goal.returns-clause-of_ring
returns-clause-of_ring c = subst (λ (m : Member). IfSome c.message.result (λ msg. (candidate_of msg).node ≤ m.n)) c.at.ensures.member c.message.ensures.inside
