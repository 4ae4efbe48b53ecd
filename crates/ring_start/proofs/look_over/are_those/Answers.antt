use Rattle.std.proofs.Common.{rules, ◌≡◌, ◌≤◌, ◌-◌, ◌∙◌, List, Some, length, take, refl, sym, ap, subst, arith}
use Rattle.std.specs.Prelude.{slice_get}
use Rattle.std.proofs.lemmas.List.{take_all}
use Rattle.ring_records.specs.declared.input.Input.{Input}
use Rattle.ring_records.specs.History.{taken}
use Rattle.ring_records.proofs.Iteration.{IsItem}
use Rattle.ring_start.proofs.Messages.{AreThose, fit, here, no_more, none_taken, one_more, one_more_taken, those}
use Rattle.ring_start.proofs.look_over.are_those.Goals as goal
use Rattle.ring_start.proofs.look_over.are_those.Goals.{in-Some+else-not-is_sent, in_default}

pub loop-input-init : goal.loop-input-init
loop-input-init c = record { place = let none = none_taken.0 in omega arith; few = omega arith; those = none_taken.1 c.args.messages.now c.args.first c.args.taken }

pub returns-then-not-is_sent : goal.returns-then-not-is_sent
returns-then-not-is_sent c i own behind sent_is start_is =
    let inputs = c.args.inputs.now in
    let k = c.loop-input.input-index in
    let x = c.input-item.result in
    let item : IsItem inputs k x = record { within = c.loop-input-test.true; is = c.input-item.is } in
    let is = sym c.message_in.ensures ∙ c.in-Some.is in
    let at = c.loop-input.invariant.place in (
      λ t. absurd (let here = t in cc),
      λ fits. c.if-not-is_sent.ensures.1 (λ low. ap (λ n. slice_get c.args.messages.now (n - c.args.first)) at
          ∙ those i c.args.first c.args.taken c.args.messages.now own behind inputs sent_is start_is fits (length (taken (take k inputs))) c.in-Some.msg (here inputs k x item c.in-Some.msg is) (omega arith)),
    )

pub overflow_add-place : goal.overflow_add-place
overflow_add-place c = omega (arith, c.loop-input.invariant.few, c.loop-input-test.true, c.requires.few)

pub loop-input-preserved : goal.loop-input-preserved
loop-input-preserved c =
    let inputs = c.args.inputs.now in
    let k = c.loop-input.input-index in
    let x = c.input-item.result in
    let item : IsItem inputs k x = record { within = c.loop-input-test.true; is = c.input-item.is } in
    let at = c.loop-input.invariant.place in
    let few = c.loop-input.invariant.few in
    elim c.match-message_in.branch [
      | in-Some+else-not-is_sent w ↦ (
          let msg = w.in-Some.msg in
          let is = sym c.message_in.ensures ∙ w.in-Some.is in
          let size = one_more_taken inputs k x item msg is in
          let next = w.place-is in
          record {
            place = omega arith;
            few = omega arith;
            those = one_more inputs k x item c.args.messages.now c.args.first c.args.taken msg is
                (subst (λ n. c.args.first ≤ n → slice_get c.args.messages.now (n - c.args.first) ≡ Some msg) at (w.is_sent.ensures.0 (let sent = w.if-not-is_sent.false in search rules)))
                c.loop-input.invariant.those;
          })
      | in_default w ↦ (
          let same = no_more inputs k x item (sym c.message_in.ensures ∙ w.in_default.is) in
          let next = w.place-is in
          let size = ap length same in
          record {
            place = omega arith;
            few = omega arith;
            those = subst (AreThose c.args.messages.now c.args.first c.args.taken) (sym same) c.loop-input.invariant.those;
          })
    ]

pub returns : goal.returns
returns c i own behind sent_is start_is =
    let inputs = c.args.inputs.now in
    let within : length inputs ≤ c.loop-input.input-index = omega (arith, c.loop-input-test.false) in
    let all = subst (λ (l : List Input). AreThose c.args.messages.now c.args.first c.args.taken (taken l)) (take_all c.loop-input.input-index inputs within) c.loop-input.invariant.those in
    (λ t. fit i c.args.first c.args.taken c.args.messages.now own behind inputs sent_is start_is all, λ fits. refl)
