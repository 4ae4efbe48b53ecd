use Rattle.std.proofs.Common.{◌≡◌, ◌+◌, ◌≤◌, IfOk, OnOk, length, sym, subst, ap, ◌∙◌}
use Rattle.ring_world.specs.State.{State}
use Rattle.ring_world.specs.Worlds.{IsWorld}
use Rattle.ring_world.specs.Stage.{state_of}
use Rattle.ring_world.specs.declared.world.Stage.{Stage}
use Rattle.ring_world.proofs.Kept.{Moved, moved}
use Rattle.ring_world.proofs.world.World.step.Goals as goal
use Rattle.ring_world.proofs.world.World.step.Goals.{After-put}

-- the ring that works is what the world was
before : (c : After-put) → c.in-Working.ring ≡ c.args.self.now
before c = ap state_of c.in-Working.ensures.value ∙ c.self.view_is

-- and the event made of it what is said
kept : (c : After-put) → Moved c.in-Working.ring (state_of c.step-after.result.0) c.step-after.result.1
kept c =
    let step = c.step-after.ensures in
    moved c.in-Working.ring (state_of c.step-after.result.0) c.args.event c.step-after.result.1 (subst IsWorld (sym (before c)) (subst IsWorld c.self.view_is c.self.invariant)) step.works step.steps step.lawful step.refused step.memory

pub invariant_of-self : goal.invariant_of-self
invariant_of-self c = let here = (goal.at.invariant_of-self c).After-put in subst (λ (stage : Stage). IsWorld (state_of stage)) (sym here.put.ensures) (kept here).world

pub returns-in-Working-clause-size : goal.returns-in-Working-clause-size
returns-in-Working-clause-size c =
    let here = (goal.at.returns-in-Working-clause-size c).After-put in (
      ap (λ (stage : Stage). (state_of stage).ring.size) here.put.ensures ∙ ((kept here).size.0 ∙ ap (λ (s : State). s.ring.size) (before here)),
      ap (λ (stage : Stage). (state_of stage).ring.capacity) here.put.ensures ∙ ((kept here).size.1 ∙ ap (λ (s : State). s.ring.capacity) (before here)),
    )

pub returns-in-Working-clause-few : goal.returns-in-Working-clause-few
returns-in-Working-clause-few c =
    let here = (goal.at.returns-in-Working-clause-few c).After-put in
    subst (λ (s : State). IfOk here.step-after.result.1 (λ o. length o.replies.items + length o.lost.items ≤ s.tickets + 1)) (before here) (kept here).few

pub returns-in-Working-clause-tickets : goal.returns-in-Working-clause-tickets
returns-in-Working-clause-tickets c =
    let here = (goal.at.returns-in-Working-clause-tickets c).After-put in
    subst (λ (a : Stage × State). OnOk here.step-after.result.1 ((state_of a.0).tickets ≤ a.1.tickets + 1)) (λ t. (sym here.put.ensures t, before here t)) (kept here).tickets
