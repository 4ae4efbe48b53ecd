-- The lowest node of which something is told.
use Rattle.std.proofs.Common.{ℕ, zero, suc, ◌≡◌, ◌≤◌, ◌<◌, ◌+◌, true, false, Option, Some, None, refl, sym, ap, ◌∙◌, inl, inr, arith}
use Rattle.std.specs.List.{cons_option, filter_map, range_with_len}
use Rattle.std.specs.Prelude.{is_some}
use Rattle.std.proofs.lemmas.Bool.{cases_eq}
use Rattle.ring_records.specs.Lists.{first}
use Rattle.ring_records.proofs.Lists.{none≢some}

pub after_one : (m k : ℕ) → m ≡ k + 1 → m ≡ suc k
after_one m k e = omega arith

module _ {A : Type 0} (f : ℕ → Option A) where
  -- what is told of the lowest of so many nodes from this one on
  abbrev pub lowest_from : ℕ → ℕ → Option A
  lowest_from from count = first (filter_map f (range_with_len from count))

  -- what is told of this node, if anything, and else of those behind it
  lowest_one : (from k : ℕ) (d : Option A) → d ≡ f from → lowest_from from (suc k) ≡ first (cons_option d (filter_map f (range_with_len (from + 1) k)))
  lowest_one from k d is = ap (λ o. first (cons_option o (filter_map f (range_with_len (from + 1) k)))) (sym is)

  pub lowest_found : (from j m k : ℕ) (d : Option A) → from ≡ j → m ≡ k + 1 → d ≡ f from → is_some d ≡ true → lowest_from j m ≡ d
  unfolding first
  lowest_found from j m k d at e is some = ap (λ i. lowest_from i m) (sym at) ∙ (ap (lowest_from from) (after_one m k e) ∙ (lowest_one from k d is ∙ found d some))
    where
      found : (d : Option A) → is_some d ≡ true → first (cons_option d (filter_map f (range_with_len (from + 1) k))) ≡ d
      found None some = absurd cc
      found (Some x) some = refl

  pub lowest_skip : (from j m k : ℕ) (d : Option A) → from ≡ j → m ≡ k + 1 → d ≡ f from → is_some d ≡ false → lowest_from j m ≡ lowest_from (j + 1) k
  lowest_skip from j m k d at e is none =
      ap (λ i. lowest_from i m) (sym at) ∙ (ap (lowest_from from) (after_one m k e) ∙ (lowest_one from k d is ∙ (skipped d none ∙ ap (λ i. lowest_from (i + 1) k) at)))
    where
      skipped : (d : Option A) → is_some d ≡ false → first (cons_option d (filter_map f (range_with_len (from + 1) k))) ≡ lowest_from (from + 1) k
      skipped None none = refl
      skipped (Some x) none = absurd cc

  pub lowest_last : (from m : ℕ) → m ≡ 0 → lowest_from from m ≡ None
  unfolding first
  lowest_last from m e = ap (lowest_from from) e

  -- where nothing is told of the lowest, nothing is of any
  pub lowest_none : (from count : ℕ) → lowest_from from count ≡ None → (i : ℕ) → from ≤ i → i < from + count → f i ≡ None
  unfolding first
  lowest_none from zero none i low high = absurd (omega arith)
  lowest_none from (suc count) none i low high = by_first (f from) refl (λ rest lower. lowest_none (from + 1) count rest i lower (omega arith))
    where
      by_first : (d : Option A) → d ≡ f from → (lowest_from (from + 1) count ≡ None → from + 1 ≤ i → f i ≡ None) → f i ≡ None
      by_first None is others = elim (cases_eq from i) [
        | inl same ↦ ap f (sym same) ∙ sym is
        | inr other ↦ others (sym (lowest_one from count None is) ∙ none) (omega arith)
      ]
      by_first (Some x) is others = none≢some x (sym (sym (lowest_one from count (Some x) is) ∙ none))
