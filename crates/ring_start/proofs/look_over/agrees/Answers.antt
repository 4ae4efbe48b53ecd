use Rattle.std.proofs.Common.{rules, ◌≡◌, ◌++◌, List, Some, take, inl, inr, sym, ap, ◌∙◌, subst, arith}
use Rattle.std.specs.List.{Contains}
use Rattle.std.proofs.lemmas.List.{take_all}
use Rattle.std.proofs.lemmas.Option.{same_Some}
use Rattle.ring_records.specs.declared.decision.Decision.{Decision}
use Rattle.ring_records.specs.declared.notice.Notice.{Notice}
use Rattle.ring_records.specs.declared.notice.Notice.TheVariants.{Decided}
use Rattle.ring_records.specs.Leader.{leader}
use Rattle.ring_records.proofs.Lists.{none≢some, Contains-option_cases}
use Rattle.ring_records.proofs.Iteration.{IsItem, take-item}
use Rattle.group_commit.proofs.Seen.{leader_seen}
use Rattle.ring_start.proofs.look_over.agrees.Goals as goal
use Rattle.ring_start.proofs.look_over.agrees.Goals.{in-Decided+in-Some+else-ne, in-Decided+in_default-who, in_default}

pub loop-notice-preserved : goal.loop-notice-preserved
loop-notice-preserved c past is decision other has leads =
    let told = c.args.told.now in
    let i = c.loop-notice.notice-index in
    let item = c.notice-item.result in
    let here : IsItem told i item = record { within = c.loop-notice-test.true; is = c.notice-item.is } in
    let desk = c.args.desk.now in
    elim (Contains-option_cases (take i told) (Some item) (Decided decision) (subst (λ (l : List Notice). Contains l (Decided decision)) (take-item told i item here) has)) [
      | inl before ↦ c.loop-notice.invariant past is decision other before leads
      | inr last ↦ (
          let this : item ≡ Decided decision = same_Some item (Decided decision) last in
          elim c.match-notice.branch [
            | in-Decided+in-Some+else-ne w ↦ (
                let both : Decided w.in-Decided.decision ≡ Decided decision = sym w.in-Decided.is ∙ this in
                let same : w.in-Decided.decision ≡ decision = cc in
                let known : Some w.in-Some.leader ≡ Some other = sym w.in-Some.is ∙ (w.who.ensures.value ∙ leader_seen past desk w.in-Decided.decision.key is w.who.ensures.known ∙ (ap (λ (d : Decision). leader desk.view.member.node (past ++ desk.view.state.inputs) d.key) same ∙ leads)) in
                let equal : w.in-Some.leader ≡ w.in-Decided.decision.leader = search rules in
                sym (same_Some w.in-Some.leader other known) ∙ (equal ∙ ap (λ (d : Decision). d.leader) same))
            | in-Decided+in_default-who w ↦ (
                let both : Decided w.in-Decided.decision ≡ Decided decision = sym w.in-Decided.is ∙ this in
                let same : w.in-Decided.decision ≡ decision = cc in
                none≢some other (sym w.in_default-who.is ∙ (w.who.ensures.value ∙ leader_seen past desk w.in-Decided.decision.key is w.who.ensures.known ∙ (ap (λ (d : Decision). leader desk.view.member.node (past ++ desk.view.state.inputs) d.key) same ∙ leads))))
            | in_default w ↦ absurd (let both = sym w.in_default.is ∙ this in cc)
          ])
    ]

pub returns-clause-yes : goal.returns-clause-yes
returns-clause-yes c = λ _ past is decision other has leads.
    c.loop-notice.invariant past is decision other
    (subst (λ (l : List Notice). Contains l (Decided decision)) (sym (take_all c.loop-notice.notice-index c.args.told.now (omega (arith, c.loop-notice-test.false)))) has) leads

pub returns-then-ne-clause-no : goal.returns-then-ne-clause-no
returns-then-ne-clause-no c = λ _ past is. record {
  told = c.in-Decided.decision;
  other = c.in-Some.leader;
  among = search rules;
  known = sym (leader_seen past c.args.desk.now c.in-Decided.decision.key is c.who.ensures.known) ∙ (sym c.who.ensures.value ∙ c.in-Some.is);
  differ = search rules;
}
