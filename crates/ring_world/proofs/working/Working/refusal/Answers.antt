use Rattle.std.proofs.Common.{sym, ap, ◌∙◌}
use Rattle.ring_records.specs.declared.refusal.Refusal.TheVariants.{Failed, Limit}
use Rattle.ring_records.specs.Objection.{where_so}
use Rattle.ring_records.specs.Lists.{or_else}
use Rattle.ring_world.specs.Ring.{is_full}
use Rattle.ring_world.specs.State.{State}
use Rattle.ring_world.specs.Step.{unbegun, refusal_of}
use Rattle.ring_world.proofs.working.Working.refusal.Goals as goal

pub checkpoint_objection-requires : goal.checkpoint_objection-requires
checkpoint_objection-requires c = record { free = sym c.objection.ensures.value ∙ c.in-None.is }

pub returns-in-Some-clause-value : goal.returns-in-Some-clause-value
unfolding refusal_of
returns-in-Some-clause-value c = λ t.
    or_else (where_so (ap (λ (s : State). s.ring.failed) c.self.view_is t) Failed)
    (or_else ((sym c.in-Some.is ∙ c.objection.ensures.value) t) (or_else (where_so (is_full c.args.self.now.ring) Limit) (unbegun c.args.self.now c.args.event.now)))

pub returns-in-Some-event_objection-clause-value : goal.returns-in-Some-event_objection-clause-value
unfolding refusal_of
returns-in-Some-event_objection-clause-value c = λ t.
    or_else (where_so (ap (λ (s : State). s.ring.failed) c.self.view_is t) Failed)
    (or_else ((sym c.in-None.is ∙ c.objection.ensures.value) t) (or_else ((sym c.in-Some-event_objection.is ∙ c.event_objection.ensures.value) t) (unbegun c.args.self.now c.args.event.now)))

pub returns-in-None-event_objection-clause-value : goal.returns-in-None-event_objection-clause-value
unfolding refusal_of
returns-in-None-event_objection-clause-value c = λ t.
    or_else (where_so (ap (λ (s : State). s.ring.failed) c.self.view_is t) Failed)
    (or_else ((sym c.in-None.is ∙ c.objection.ensures.value) t) (or_else ((sym c.in-None-event_objection.is ∙ c.event_objection.ensures.value) t) (c.checkpoint_objection.ensures.value t)))
