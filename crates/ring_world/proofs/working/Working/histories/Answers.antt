use Rattle.std.proofs.Common.{sym, ap}
use Rattle.ring_world.specs.State.{State}
use Rattle.ring_world.proofs.working.Working.histories.Goals as goal

pub returns-in-Some-clause-works : goal.returns-in-Some-clause-works
returns-in-Some-clause-works c = sym (ap (λ (s : State). s.ring.failed) c.self.view_is)

pub returns-in-Ok-clause-works : goal.returns-in-Ok-clause-works
returns-in-Ok-clause-works c = sym (ap (λ (s : State). s.ring.failed) c.self.view_is)

pub returns-in-Err-clause-works : goal.returns-in-Err-clause-works
returns-in-Err-clause-works c = sym (ap (λ (s : State). s.ring.failed) c.self.view_is)
