-- That nodes stay in order as the next one joins them.
use Rattle.std.proofs.Common.{ℕ, ◌≡◌, ◌+◌, ◌≤◌, List, [], ◌∷◌, ◌++◌, length, get_or, slice_get, Some, inl, inr, ap, sym, ◌∙◌, arith}
use Rattle.std.proofs.Math.ListN.{get_or-append}
use Rattle.std.proofs.Math.Seq.{get_or-append_seam}
use Rattle.std.proofs.Math.Nat.{eq-or-lt_of_le}
use Rattle.std.proofs.lemmas.List.{length-append}
use Rattle.std.proofs.lemmas.Option.{slice_get-get_or, slice_get_within, get_or_from_slice_get}

-- the number of each is its place, counted from 1
abbrev pub AreNumbered : {A : Type 0} → (A → ℕ) → List A → Type 0
AreNumbered {A} number xs = (k : ℕ) (y : A) → slice_get xs k ≡ Some y → number y ≡ k + 1

pub AreNumbered-push : {A : Type 0} (number : A → ℕ) (xs : List A) (x : A) → AreNumbered number xs → number x ≡ length xs + 1 → AreNumbered number (xs ++ x ∷ [])
AreNumbered-push number xs x old new k y there =
    let size = length-append xs (x ∷ []) in
    let within = slice_get_within (xs ++ x ∷ []) k y there in
    let is = get_or_from_slice_get (xs ++ x ∷ []) k y y there in
    let inside : k ≤ length xs = omega (arith, size) in
    elim (eq-or-lt_of_le inside) [
      | inl last ↦
          (let seam : get_or (xs ++ x ∷ []) k y ≡ x = ap (λ i. get_or (xs ++ x ∷ []) i y) last ∙ get_or-append_seam xs x [] y in
          ap number (sym is ∙ seam) ∙ new ∙ ap (λ i. i + 1) (sym last))
      | inr before ↦
          (let same : get_or xs k y ≡ y = sym (get_or-append xs (x ∷ []) y k before) ∙ is in
          old k y (slice_get-get_or xs k y before ∙ ap Some same))
    ]
