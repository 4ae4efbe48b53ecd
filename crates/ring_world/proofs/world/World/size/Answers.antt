use Rattle.std.proofs.Common.{arith, ap, subst}
use Rattle.ring_world.specs.State.{State}
use Rattle.ring_world.specs.Worlds.{IsWorld}
use Rattle.ring_world.proofs.world.World.size.Goals as goal

pub returns-clause-range : goal.returns-clause-range
returns-clause-range c =
    let world : IsWorld c.args.self.now = subst IsWorld c.self.view_is c.self.invariant in
    let size = ap (λ (s : State). s.ring.size) c.log.ensures in
    let least = world.least in
    let most = world.most in
    (omega (arith, size, least), omega (arith, size, most))
