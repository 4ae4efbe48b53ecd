use Rattle.std.proofs.Common.{rules, ◌≡◌, ◌∷◌, ◌∙◌, length, take, get_or, refl, ap, sym, subst}
use Rattle.std.proofs.lemmas.List.{get_or_default}
use Rattle.ring_records.specs.declared.input.Input.TheVariants.{Acked}
use Rattle.ring_records.specs.Known.{after}
use Rattle.ring_records.proofs.Iteration.{IsItem}
use Rattle.node_core.specs.declared.effects.Effects.{Effects}
use Rattle.group_commit.specs.Outbox.{Keeps}
use Rattle.group_commit.proofs.Settling.{settles_none, settles_end, settles_next, keeps_next, first_of, brings_next, free_at, holds_landed}
use Rattle.group_commit.proofs.outbox.Outbox.settle.Goals as goal

pub loop-i-init : goal.loop-i-init
loop-i-init c =
    let a = c.requires.holds in (
      settles_none a.0 c.args.self.now _ _ a.2 _ (length c.args.inputs.now) c.requires.some a.4 c.hand_out-landed.ensures.given refl refl (record { packets = c.hand_out-landed.ensures.packets; notices = c.hand_out-landed.ensures.notices; again = c.hand_out-landed.ensures.again }),
      λ me n s rest holds free. holds.released,
    )

pub unreachable-requires : goal.unreachable-requires
unreachable-requires c =
    let a = c.requires.holds in
    let x = get_or c.args.inputs.now c.loop-i.i (Acked 0) in
    let here : IsItem c.args.inputs.now c.loop-i.i x = record { within = search rules; is = get_or_default c.args.inputs.now c.loop-i.i (Acked 0) x (search rules) } in
    let more = ap length (c.loop-i.invariant.0.waits ∙ brings_next a.0 a.2 c.args.inputs.now a.3 c.args.self.now.waiting.items c.loop-i.i x a.4.waiting here) in
    search rules

pub add-requires-clause-free : goal.add-requires-clause-free
add-requires-clause-free c =
    let a = c.requires.holds in
    let x = c.index-inputs-i.result in
    let here : IsItem c.args.inputs.now c.loop-i.i x = record { within = search rules; is = c.index-inputs-i.is } in
    let brings = c.brought.view_is ∙ first_of c.in-Some.brought (sym c.in-Some.ensures.items ∙ (c.loop-i.invariant.0.waits ∙ brings_next a.0 a.2 c.args.inputs.now a.3 c.args.self.now.waiting.items c.loop-i.i x a.4.waiting here)) in
    (a.0, a.1, after a.0 a.2 (take c.loop-i.i c.args.inputs.now), c.loop-i.invariant.1 a.0 a.1 a.2 a.3 a.4 a.5, free_at a.0 a.1 a.2 c.args.inputs.now c.loop-i.i x a.5 here, brings)

pub loop-i-preserved : goal.loop-i-preserved
loop-i-preserved c =
    let x = c.index-inputs-i.result in
    let here : IsItem c.args.inputs.now c.loop-i.i x = record { within = search rules; is = c.index-inputs-i.is } in
    let settles = c.loop-i.invariant.0 in
    let split = c.in-Some.ensures.items ∙ ap (λ (e : Effects). e ∷ c.pop_front.new.self.items) (sym c.brought.view_is) in (
      settles_next c.loop-i.self _ c.loop-i.landed _ c.args.self.now.waiting.items (length c.args.inputs.now) c.loop-i.i c.brought.inside.effects settles c.loop-i-test.true split settles.blank
          c.add.ensures.room c.add-in-loop-i.ensures.room c.add-in-loop-i.ensures.packets c.add-in-loop-i.ensures.notices c.add-in-loop-i.ensures.again c.add-in-loop-i.ensures.count,
      λ me n s rest holds free.
          let brings = first_of c.brought.inside.effects (sym split ∙ (settles.waits ∙ brings_next me s c.args.inputs.now rest c.args.self.now.waiting.items c.loop-i.i x holds.waiting here)) in
          keeps_next me c.add.new.self s c.args.inputs.now c.loop-i.i x here
          (c.add.ensures.keeps me n (after me s (take c.loop-i.i c.args.inputs.now)) (c.loop-i.invariant.1 me n s rest holds free) (free_at me n s c.args.inputs.now c.loop-i.i x free here) brings),
    )

pub returns-then-self-taken-clause-holds : goal.returns-then-self-taken-clause-holds
returns-then-self-taken-clause-holds c = λ me n s rest holds free.
    let all : c.loop-i.i ≡ length c.args.inputs.now = search rules in
    let settles = settles_end _ _ _ _ c.loop-i.i all c.loop-i.invariant.0 in
    holds_landed me c.args.self.now c.loop-i.self c.loop-i.landed s c.args.inputs.now rest holds settles
    (subst (λ k. Keeps c.loop-i.self.released (after me s (take k c.args.inputs.now))) all (c.loop-i.invariant.1 me n s rest holds free))

pub returns-else-self-taken-clause-holds : goal.returns-else-self-taken-clause-holds
returns-else-self-taken-clause-holds c = λ me n s rest holds free.
    let all : c.loop-i.i ≡ length c.args.inputs.now = search rules in
    let settles = settles_end _ _ _ _ c.loop-i.i all c.loop-i.invariant.0 in
    holds_landed me c.args.self.now c.loop-i.self c.loop-i.landed s c.args.inputs.now rest holds settles
    (subst (λ k. Keeps c.loop-i.self.released (after me s (take k c.args.inputs.now))) all (c.loop-i.invariant.1 me n s rest holds free))

pub returns-then-self-taken-clause-again : goal.returns-then-self-taken-clause-again
returns-then-self-taken-clause-again c = c.credit.ensures.again ∙ (c.loop-i.invariant.0.again ∙ sym c.credit.ensures.notices)

pub returns-else-self-taken-clause-again : goal.returns-else-self-taken-clause-again
returns-else-self-taken-clause-again c = c.loop-i.invariant.0.again
