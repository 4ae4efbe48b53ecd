use Rattle.std.proofs.Common.{sym, ap}
use Rattle.ring_world.specs.State.{State}
use Rattle.ring_world.proofs.working.Working.log.Goals as goal

pub returns-clause-works : goal.returns-clause-works
returns-clause-works c = sym (ap (λ (s : State). s.ring.failed) c.self.view_is)
