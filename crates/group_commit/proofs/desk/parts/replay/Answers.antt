use Rattle.std.proofs.Common.{rules, ◌≡◌, inr, [], ◌≤◌, true, false, is_err, is_ok, length, None, Some, refl, sym, subst, ap, ◌∙◌}
use Rattle.std.proofs.lemmas.List.{take_all}
use Rattle.std.proofs.lemmas.Option.{slice_get_read}
use Rattle.ring_records.specs.declared.summary.Summary.{Summary}
use Rattle.ring_records.specs.Known.{Objects, stepped, after}
use Rattle.ring_records.specs.Lists.{EachAfter}
use Rattle.ring_records.proofs.Iteration.{IsItem}
use Rattle.node_core.specs.Brought.{brought}
use Rattle.node_core.specs.Core.{CoreView, Refuses}
use Rattle.node_core.specs.FreeCore.{taking}
use Rattle.group_commit.specs.Opening.{core_after, IsKnownLawful}
use Rattle.group_commit.specs.Outbox.{Holds}
use Rattle.group_commit.proofs.Opening.{objects_none, core-none, core-item, lawful-item, why, why_not, on_ok}
use Rattle.group_commit.proofs.desk.parts.replay.Goals as goal

pub loop-i-init : goal.loop-i-init
unfolding EachAfter
loop-i-init c = (core-none c.args.core.now, tt, c.requires)

pub returns-then-is_err-clause-refusal : goal.returns-then-is_err-clause-refusal
returns-then-is_err-clause-refusal c =
    let x = c.index-inputs-i.result in
    let refused : is_err c.admit.result ≡ true = search rules in
    let because = why c.admit.result refused in
    let here : IsItem c.args.inputs.now c.loop-i.i x = record { within = c.loop-i-test.true; is = c.index-inputs-i.is } in
    let there = slice_get_read c.args.inputs.now (length c.args.inputs.now) c.loop-i.i x refl here.within here.is in
    inr (record {
      index = c.loop-i.i;
      is = refl;
      before = c.loop-i.invariant.1;
      input = x;
      there = there;
      refused_for = because.0;
      because = subst (λ (core : CoreView). Refuses core x (Some because.0)) c.loop-i.invariant.0 (subst (Refuses c.loop-i.core x) because.1 c.admit.ensures.value);
    })

pub apply-requires : goal.apply-requires
apply-requires c =
    let accepted : is_err c.admit.result ≡ false = search rules in
    subst (Refuses c.loop-i.core c.index-inputs-i.result) (why_not c.admit.result accepted) c.admit.ensures.value

pub add-requires : goal.add-requires
add-requires c =
    let first = c.args.core.now in
    let accepted : is_err c.admit.result ≡ false = search rules in
    let free = subst (Refuses c.loop-i.core c.index-inputs-i.result) (why_not c.admit.result accepted) c.admit.ensures.value in
    let is = c.loop-i.invariant.0 in
    record {
      free = (
        first.me,
        first.size,
        c.loop-i.core.known,
        c.loop-i.invariant.2,
        subst (λ n. Objects n c.loop-i.core.known c.index-inputs-i.result None) (λ i. (is i).size) (objects_none c.loop-i.core c.index-inputs-i.result free),
        c.in-Ok.ensures.brings ∙ ap (λ me. brought me c.loop-i.core.known c.index-inputs-i.result) (λ i. (is i).me),
      );
    }

pub loop-i-preserved : goal.loop-i-preserved
loop-i-preserved c =
    let first = c.args.core.now in
    let x = c.index-inputs-i.result in
    let here : IsItem c.args.inputs.now c.loop-i.i x = record { within = c.loop-i-test.true; is = c.index-inputs-i.is } in
    let accepted : is_err c.admit.result ≡ false = search rules in
    let free = subst (Refuses c.loop-i.core x) (why_not c.admit.result accepted) c.admit.ensures.value in
    let is = c.loop-i.invariant.0 in
    let steps : c.apply.new.self ≡ record c.loop-i.core { known = stepped c.loop-i.core.me c.loop-i.core.known x; room = taking x c.loop-i.core.room } = search rules in
    let brings = c.in-Ok.ensures.brings ∙ ap (λ me. brought me c.loop-i.core.known x) (λ i. (is i).me) in
    let added : is_ok c.add.result ≡ true = search rules in (
      core-item first c.loop-i.core c.apply.new.self c.args.inputs.now c.loop-i.i x is here steps,
      lawful-item first c.loop-i.core c.args.inputs.now c.loop-i.i x is here c.loop-i.invariant.1 free,
      subst (λ (t : Summary). Holds first.me c.add.new.self t [] 0) (ap (λ me. stepped me c.loop-i.core.known x) (λ j. (sym is j).me) ∙ (λ j. (sym steps j).known))
          (on_ok c.add.result added c.add.ensures.holds first.me first.size c.loop-i.core.known c.loop-i.invariant.2
          (subst (λ n. Objects n c.loop-i.core.known x None) (λ i. (is i).size) (objects_none c.loop-i.core x free)) brings),
    )

pub returns : goal.returns
returns c =
    let first = c.args.core.now in
    let within : length c.args.inputs.now ≤ c.loop-i.i = search rules in
    let all = take_all c.loop-i.i c.args.inputs.now within in
    record {
      knows = c.loop-i.invariant.0 ∙ ap (core_after first) all;
      lawful = subst (IsKnownLawful first) all c.loop-i.invariant.1;
      holds = subst (λ (t : Summary). Holds first.me c.loop-i.outbox t [] 0) ((λ j. (c.loop-i.invariant.0 j).known) ∙ ap (after first.me first.known) all) c.loop-i.invariant.2;
      refusal = tt;
    }
