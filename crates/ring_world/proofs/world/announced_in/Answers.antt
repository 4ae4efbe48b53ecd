use Rattle.std.proofs.Common.{◌++◌, ◌∷◌, [], Some, None, Vec, Global, sym, ap, ◌∙◌}
use Rattle.std.proofs.lemmas.List.{append-nil}
use Rattle.ring_world.specs.declared.announced.Announced.{Announced}
use Rattle.ring_world.proofs.Named.{announced_more}
use Rattle.ring_world.proofs.world.announced_in.Goals as goal
use Rattle.ring_world.proofs.world.announced_in.Goals.{in-Some+in_ok-push, in_default}

pub loop-event-preserved : goal.loop-event-preserved
loop-event-preserved c = elim c.match-announced.branch [
  | in-Some+in_ok-push w ↦ ap (λ (v : Vec Announced Global). v.items) w.list-is ∙ (w.in_ok-push.ensures.items ∙ (ap (λ x. x ++ w.in-Some.named ∷ []) c.loop-event.invariant
      ∙ sym (announced_more c.args.events.now c.loop-event.event-index c.event-item.result (Some w.in-Some.named) c.loop-event-test.true c.event-item.is (sym w.in-Some.is ∙ c.announced.ensures))))
  | in_default w ↦ ap (λ (v : Vec Announced Global). v.items) w.list-is ∙ (c.loop-event.invariant ∙ (sym (append-nil _)
      ∙ sym (announced_more c.args.events.now c.loop-event.event-index c.event-item.result None c.loop-event-test.true c.event-item.is (sym w.in_default.is ∙ c.announced.ensures))))
]
