-- Words that fit no form, by their count.
use Rattle.std.proofs.Common.{◌≡◌, ◌≢◌, ℕ, ◌<◌, ◌≤◌, ◌⊎◌, inl, inr, Bool, Bor, true, false, ◌&&◌, nat_le}
use Rattle.std.proofs.Common.{if◌then◌else◌, List, [], ◌∷◌, length, map, Some, None, Option, Err, refl, sym, ap, subst, arith}
use Rattle.std.proofs.lemmas.Bool.{leb-true}
use Rattle.std.proofs.lemmas.List.{length-map}
use Rattle.std.specs.List.{list_all}
use Rattle.std.specs.Str.{bytes_eq}
use Rattle.ring_records.specs.declared.refusal.Refusal.TheVariants.{BadLine}
use Rattle.line_words.specs.Forms.{Form, fixed, fits, read, form_says}

other_count : (form : List (Option (List ℕ))) (words : List (List ℕ)) → length words ≢ length form → fits form words ≡ false
other_count [] [] other = absurd (other refl)
other_count [] (word ∷ words) other = refl
other_count (f ∷ form) [] other = refl
other_count (Some f ∷ form) (word ∷ words) other = ap (λ b. b && bytes_eq word f) (other_count form words (λ e. other (omega (arith, e))))
other_count (None ∷ form) (word ∷ words) other = other_count form words (λ e. other (omega (arith, e)))

both : (a b : Bool) → a && b ≡ true → (a ≡ true) × (b ≡ true)
both true b e = (refl, e)
both false b e = cc

-- whether each form has from low to high words
abbrev pub has_counts : {A : Type 0} → ℕ → ℕ → List (Form A) → Bool
has_counts low high forms = list_all (λ form. nat_le low (length form.0) && nat_le (length form.0) high) forms

outside : {A : Type 0} (forms : List (Form A)) (words : List (List ℕ)) (low high : ℕ) → has_counts low high forms ≡ true
    → (length words < low) ⊎ (high < length words) → form_says forms words ≡ Err BadLine
unfolding form_says
outside [] words low high counts other = refl
outside (form ∷ forms) words low high counts other =
    let (first, rest) = both _ _ counts in
    let (least, most) = both _ _ first in
    let low_is : low ≤ length form.0 = leb-true _ _ least in
    let high_is : length form.0 ≤ high = leb-true _ _ most in
    let count : length (map fixed form.0) ≡ length form.0 = length-map form.0 fixed in
    let differs : length words ≢ length (map fixed form.0) = λ e. elim other [ inl less ↦ absurd (omega (arith, e)) | inr more ↦ absurd (omega (arith, e)) ] in
    subst (λ b. (if b then read form.0 form.1 words else form_says forms words) ≡ Err BadLine) (sym (other_count (map fixed form.0) words differs)) (outside forms words low high rest other)

-- Words that are fewer than those of each form, or more, fit none.

pub too_few : {A : Type 0} (forms : List (Form A)) (words : List (Bor (List ℕ))) (low high : ℕ) → has_counts low high forms ≡ true
    → length words < low → Err BadLine ≡ form_says forms (map (λ x. x.now) words)
too_few forms words low high counts less =
    let count : length (map {A = Bor (List ℕ)} (λ x. x.now) words) ≡ length words = length-map words (λ x. x.now) in
    sym (outside forms (map (λ x. x.now) words) low high counts (inl (omega arith)))

pub too_many : {A : Type 0} (forms : List (Form A)) (words : List (Bor (List ℕ))) (low high : ℕ) → has_counts low high forms ≡ true
    → high < length words → Err BadLine ≡ form_says forms (map (λ x. x.now) words)
too_many forms words low high counts more =
    let count : length (map {A = Bor (List ℕ)} (λ x. x.now) words) ≡ length words = length-map words (λ x. x.now) in
    sym (outside forms (map (λ x. x.now) words) low high counts (inr (omega arith)))
