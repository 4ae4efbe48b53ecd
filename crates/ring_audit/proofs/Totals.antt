-- A run of whole histories has as many steps as they have inputs.
use Rattle.std.proofs.Common.{ℕ, zero, suc, ◌≡◌, ◌≤◌, ◌+◌, ◌-◌, List, [], ◌∷◌, ◌++◌, length, get_or, refl, sym, ap, ◌∙◌, subst, inl, inr, arith}
use Rattle.std.specs.List.{sum_by}
use Rattle.std.proofs.lemmas.Bool.{cases_eq}
use Rattle.std.proofs.lemmas.List.{length-append}
use Rattle.std.proofs.lemmas.List.Sums.{sum_by-cons}
use Rattle.ring_records.specs.declared.input.Input.{Input}
use Rattle.ring_records.specs.Ring.{MayFollow, IsLegal}
use Rattle.ring_records.specs.Part.{part}
use Rattle.ring_records.proofs.Lists.{along}
use Rattle.ring_records.proofs.Parts.{part-same, part-other}
use Rattle.ring_audit.specs.Placement.{history_of, IsWhole}

-- f of 1 to n, added up
total : ℕ → (ℕ → ℕ) → ℕ
total zero f = 0
total (suc n) f = total n f + f (suc n)

total-same : (n : ℕ) (f g : ℕ → ℕ) → ((i : ℕ) → 1 ≤ i → i ≤ n → f i ≡ g i) → total n f ≡ total n g
unfolding total
total-same zero f g same = refl
total-same (suc n) f g same = λ t. total-same n f g (λ i low high. same i low (omega arith)) t + same (suc n) (omega arith) (omega arith) t

total-first : (n : ℕ) (f : ℕ → ℕ) → total (suc n) f ≡ f 1 + total n (λ i. f (suc i))
unfolding total
total-first zero f = omega arith
total-first (suc n) f = let rest = total-first n f in omega arith

-- one of them is one more
total-more : (n j : ℕ) (f g : ℕ → ℕ) → 1 ≤ j → j ≤ n → g j ≡ f j + 1 → ((i : ℕ) → (j ≡ i → ⊥) → g i ≡ f i) → total n g ≡ total n f + 1
unfolding total
total-more zero j f g low high more same = absurd (omega arith)
total-more (suc n) j f g low high more same = elim (cases_eq j (suc n)) [
  | inl e ↦ (let rest : total n g ≡ total n f = total-same n g f (λ i lo hi. same i (λ q. absurd (omega arith))) in
      let last : g (suc n) ≡ f (suc n) + 1 = subst (λ k. g k ≡ f k + 1) e more in
      omega arith)
  | inr ne ↦ (let rest = total-more n j f g low (omega arith) more same in
      let last = same (suc n) ne in
      omega arith)
]

abbrev Counted : ℕ → List (ℕ × Input) → Type 0
Counted n run = length run ≡ total n (λ i. length (part run i))

counted-next : (n : ℕ) (run : List (ℕ × Input)) (step : ℕ × Input) → MayFollow n run step → Counted n run → Counted n (run ++ step ∷ [])
counted-next n run step a counted =
    let more : length (part (run ++ step ∷ []) step.0) ≡ length (part run step.0) + 1 = ap length (part-same n run step.0 step.1) ∙ length-append (part run step.0) (step.1 ∷ []) in
    let sums = total-more n step.0 (λ i. length (part run i)) (λ i. length (part (run ++ step ∷ []) i)) a.first a.last more (λ i ne. ap length (part-other n run step.0 step.1 i ne)) in
    length-append run (step ∷ []) ∙ (ap (λ k. k + 1) counted ∙ sym sums)

none-counted : (n : ℕ) → 0 ≡ total n (λ i. 0)
unfolding total
none-counted zero = refl
none-counted (suc n) = let rest = none-counted n in omega arith

counted : (n : ℕ) (run : List (ℕ × Input)) → IsLegal n run → Counted n run
unfolding IsLegal part
counted n run legal = along (MayFollow n) (Counted n) (counted-next n) [] run legal (none-counted n)

history_count : (hs : List (List Input)) → total (length hs) (λ i. length (history_of hs i)) ≡ sum_by length hs
unfolding total
history_count [] = refl
history_count (h ∷ hs) =
    total-first (length hs) (λ i. length (history_of (h ∷ hs) i))
    ∙ (ap (λ n. length h + n) (total-same (length hs) (λ i. length (history_of (h ∷ hs) (suc i))) (λ i. length (history_of hs i)) (λ i low high. later i low) ∙ history_count hs)
    ∙ sym (sum_by-cons length h hs))
  where
    later : (i : ℕ) → 1 ≤ i → length (history_of (h ∷ hs) (suc i)) ≡ length (history_of hs i)
    later zero low = absurd (omega arith)
    later (suc i) low =
        let there : suc (suc i) - 1 ≡ suc i = omega arith in
        let here : i ≡ suc i - 1 = omega arith in
        ap (λ k. length (get_or (h ∷ hs) k [])) there ∙ ap (λ k. length (get_or hs k [])) here

pub whole_count : (hs : List (List Input)) (run : List (ℕ × Input)) → IsWhole hs run → length run ≡ sum_by length hs
whole_count hs run w =
    counted (length hs) run w.legal
    ∙ (total-same (length hs) (λ i. length (part run i)) (λ i. length (history_of hs i)) (λ i low high. ap length (w.parts i low high)) ∙ history_count hs)
