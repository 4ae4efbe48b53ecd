use Rattle.std.proofs.Common.{◌≡◌, true, sym, subst, ap, ◌∙◌}
use Rattle.ring_records.specs.Place.{after}
use Rattle.ring_world.specs.Ring.{is_earned, is_released}
use Rattle.ring_world.specs.State.{State}
use Rattle.ring_world.proofs.working.Working.credit.Goals as goal

pub submit-requires-clause-released : goal.submit-requires-clause-released
unfolding is_released
submit-requires-clause-released c =
    let back = ap (λ (s : State). after s.ring.size c.predecessor-to.result) (sym c.self.view_is) ∙ c.predecessor-to.ensures.back in
    subst (λ k. is_earned c.args.self.ring k c.args.upto ≡ true) (sym back) c.requires.earned
