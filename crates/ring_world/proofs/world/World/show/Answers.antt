use Rattle.std.proofs.Common.{◌≡◌, ap, sym, subst, ◌∙◌}
use Rattle.ring_records.specs.declared.shown.Shown.{Shown}
use Rattle.ring_world.specs.Stage.{state_of}
use Rattle.ring_world.specs.State.{State}
use Rattle.ring_world.specs.Worlds.{IsWorld}
use Rattle.ring_world.proofs.Rest.{at_node}
use Rattle.ring_world.proofs.world.World.show.Goals as goal

pub returns-else-number-log-clause-eager : goal.returns-else-number-log-clause-eager
returns-else-number-log-clause-eager c = λ eager.
    let same : c.in-Working.ring ≡ c.args.self.now = ap state_of (sym c.in-Working.is) ∙ c.self.view_is in
    let world : IsWorld c.in-Working.ring = subst IsWorld (sym same) (subst IsWorld c.self.view_is c.self.invariant) in
    let all = world.rest (ap (λ (s : State). s.ring.eager) same ∙ eager) c.log.ensures.works in
    ap (λ (s : Shown). s.durable) c.shown.ensures ∙ (at_node c.in-Working.ring.ring c.args.node all ∙ sym (ap (λ (s : Shown). s.inputs) c.shown.ensures))
