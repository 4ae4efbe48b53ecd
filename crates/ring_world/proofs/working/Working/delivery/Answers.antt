use Rattle.std.proofs.Common.{sym, ap}
use Rattle.ring_world.specs.State.{State}
use Rattle.ring_world.proofs.Handed.{sent_released}
use Rattle.ring_world.proofs.working.Working.delivery.Goals as goal

pub returns-in-Some-clause-released : goal.returns-in-Some-clause-released
returns-in-Some-clause-released c =
    sent_released c.args.self.now.ring c.args.from c.successor.result c.args.no c.in-Some.msg c.self.inside.log.size (ap (λ (s : State). s.ring.size) c.self.view_is) c.successor.ensures.back (sym c.in-Some.ensures.value)
