use Rattle.std.proofs.Common.{inl, ◌≡◌, ◌+◌, ℕ, List, refl, sym, ◌∙◌, subst, arith}
use Rattle.gated_journal.specs.Areas.{AreAreas}
use Rattle.gated_journal.specs.Choose.{IsChosen}
use Rattle.gated_journal.specs.InUse.{IsHeadOf, start_of, other_of}
use Rattle.gated_journal.specs.declared.area.Area.{Area}
use Rattle.gated_journal.specs.declared.area.Area.TheVariants.{A, B}
use Rattle.gated_journal.proofs.Results.{not_both, on_value, on_err}
use Rattle.gated_journal.proofs.area.pick.Goals as goal

chosen_a : (capacity at : ℕ) (image : List ℕ) (area : Area) → area ≡ A → at ≡ 31 + capacity → IsChosen (start_of capacity area) (other_of capacity area) image → IsChosen 16 at image
chosen_a capacity at image area is at_is chosen = subst (λ (o : ℕ). IsChosen 16 o image) (sym at_is) (subst (λ (x : Area). IsChosen (start_of capacity x) (other_of capacity x) image) is chosen)

chosen_b : (capacity at : ℕ) (image : List ℕ) (area : Area) → area ≡ B → at ≡ 31 + capacity → IsChosen (start_of capacity area) (other_of capacity area) image → IsChosen at 16 image
chosen_b capacity at image area is at_is chosen = subst (λ (o : ℕ). IsChosen o 16 image) (sym at_is) (subst (λ (x : Area). IsChosen (start_of capacity x) (other_of capacity x) image) is chosen)

first_then : (capacity at : ℕ) → at ≡ 31 + capacity → AreAreas capacity 16 at
first_then capacity at is = record { both = omega (arith, is); one = λ ne. absurd (ne refl) }

then_first : (capacity at : ℕ) → at ≡ 31 + capacity → AreAreas capacity at 16
then_first capacity at is = record { both = omega (arith, is); one = λ ne. refl }

pub returns-in-Some-A-clause-used : goal.returns-in-Some-A-clause-used
returns-in-Some-A-clause-used c =
    let at = c.area_b.result in
    let is : at ≡ 31 + c.args.capacity = c.area_b.ensures in
    on_value c.take_area.result _ _
    (λ chosen used image size marked a b. inl (used c.args.capacity image size (first_then c.args.capacity at is) (chosen_a c.args.capacity at image c.in-Some-A.field-0 c.in-Some-A.field-0-is is (c.in-Some-A.ensures c.args.capacity image a b)) a (subst (λ o. IsHeadOf c.args.b.now o image) (sym is) b))) c.take_area.ensures.used

pub returns-in-Some-A-clause-broken : goal.returns-in-Some-A-clause-broken
returns-in-Some-A-clause-broken c =
    let at = c.area_b.result in
    let is : at ≡ 31 + c.args.capacity = c.area_b.ensures in
    on_err c.take_area.result _ _
    (λ refusal broken n image size marked a b. broken n c.args.capacity image size (first_then c.args.capacity at is) (chosen_a c.args.capacity at image c.in-Some-A.field-0 c.in-Some-A.field-0-is is (c.in-Some-A.ensures c.args.capacity image a b)) a) c.take_area.ensures.broken

pub returns-in-Some-B-clause-used : goal.returns-in-Some-B-clause-used
returns-in-Some-B-clause-used c =
    let at = c.area_b-in-Some-B.result in
    let is : at ≡ 31 + c.args.capacity = c.area_b-in-Some-B.ensures in
    on_value c.take_area-in-Some-B.result _ _
    (λ chosen used image size marked a b. inl (used c.args.capacity image size (then_first c.args.capacity at is) (chosen_b c.args.capacity at image c.in-Some-B.field-0 c.in-Some-B.field-0-is is (c.in-Some-B.ensures c.args.capacity image a b)) (subst (λ o. IsHeadOf c.args.b.now o image) (sym is) b) a)) c.take_area-in-Some-B.ensures.used

pub returns-in-Some-B-clause-broken : goal.returns-in-Some-B-clause-broken
returns-in-Some-B-clause-broken c =
    let at = c.area_b-in-Some-B.result in
    let is : at ≡ 31 + c.args.capacity = c.area_b-in-Some-B.ensures in
    on_err c.take_area-in-Some-B.result _ _
    (λ refusal broken n image size marked a b. broken n c.args.capacity image size (then_first c.args.capacity at is) (chosen_b c.args.capacity at image c.in-Some-B.field-0 c.in-Some-B.field-0-is is (c.in-Some-B.ensures c.args.capacity image a b)) (subst (λ o. IsHeadOf c.args.b.now o image) (sym is) b)) c.take_area-in-Some-B.ensures.broken

pub returns-in-None-clause-broken : goal.returns-in-None-clause-broken
returns-in-None-clause-broken c = λ n image size marked a b.
    record { cause = inl (refl, c.in-None.ensures c.args.capacity image a b, λ p. not_both (sym ((c.is_plainly.ensures c.args.capacity image marked a b).1 p) ∙ c.if-is_plainly.false)) }
