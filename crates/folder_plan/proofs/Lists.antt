-- Lists that are split at an element.
use Rattle.std.proofs.Common.{◌≡◌, ◌⊎◌, List, [], ◌∷◌, ◌++◌, inl, inr, refl, sym, ◌∙◌, ap, arith}
use Rattle.std.specs.List.{Contains}
use Rattle.std.proofs.lemmas.List.{append-nil}
use Rattle.std.proofs.lemmas.List.Elements.{Contains-append_left, Contains-append_right, Contains-append_cases, Contains-push, Contains-push_cases}

pub not-in_nil : {A : Type 0} (x : A) → Contains [] x → ⊥
not-in_nil x there = omega (arith, there.1)

pub in-head : {A : Type 0} (x : A) (xs : List A) → Contains (x ∷ xs) x
in-head x xs = Contains-append_left (x ∷ []) xs x (Contains-push [] x)

pub in-tail : {A : Type 0} (y : A) (xs : List A) (x : A) → Contains xs x → Contains (y ∷ xs) x
in-tail y xs x there = Contains-append_right (y ∷ []) xs x there

pub in-cons : {A : Type 0} (y : A) (xs : List A) (x : A) → Contains (y ∷ xs) x → (y ≡ x) ⊎ Contains xs x
in-cons y xs x there =
    elim (Contains-append_cases (y ∷ []) xs x there) [
      | inl one ↦ elim (Contains-push_cases [] y x one) [ inl none ↦ absurd (not-in_nil x none) | inr same ↦ inl same ]
      | inr rest ↦ inr rest
    ]

pub in-split : {A : Type 0} (first rest : List A) (x : A) → Contains (first ++ x ∷ rest) x
in-split first rest x = Contains-append_right first (x ∷ rest) x (in-head x rest)

-- an element of a list splits it
pub split-at : {A : Type 0} (xs : List A) (x : A) → Contains xs x → (first : List A) × (rest : List A) × (xs ≡ first ++ x ∷ rest)
split-at [] x there = absurd (not-in_nil x there)
split-at (y ∷ xs) x there =
    elim (in-cons y xs x there) [
      | inl same ↦ ([], xs, ap (λ z. z ∷ xs) same)
      | inr later ↦ (let w = split-at xs x later in (y ∷ w.0, w.1, ap (λ zs. y ∷ zs) w.2))
    ]

pub no-split : {A : Type 0} (first rest : List A) (x : A) → [] ≡ first ++ x ∷ rest → ⊥
no-split [] rest x e = cc
no-split (y ∷ first) rest x e = cc

-- two lists behind one another that are split at x: it is in the one or in the other
pub split-append : {A : Type 0} (xs ys first rest : List A) (x : A) → xs ++ ys ≡ first ++ x ∷ rest → ((mid : List A) × (xs ≡ first ++ x ∷ mid) × (rest ≡ mid ++ ys)) ⊎ ((mid : List A) × (first ≡ xs ++ mid) × (ys ≡ mid ++ x ∷ rest))
split-append [] ys first rest x e = inr (first, refl, e)
split-append (y ∷ xs) ys [] rest x e =
    let head : y ≡ x = cc in
    let tail : xs ++ ys ≡ rest = cc in
    inl (xs, ap (λ z. z ∷ xs) head, sym tail)
split-append (y ∷ xs) ys (z ∷ first) rest x e =
    let head : y ≡ z = cc in
    let tail : xs ++ ys ≡ first ++ x ∷ rest = cc in
    elim (split-append xs ys first rest x tail) [
      | inl w ↦ inl (w.0, ap (λ v. v ∷ xs) head ∙ ap (λ vs. z ∷ vs) w.1, w.2)
      | inr w ↦ inr (w.0, ap (λ vs. z ∷ vs) w.1 ∙ ap (λ v. v ∷ (xs ++ w.0)) (sym head), w.2)
    ]

-- the same where the other list is one element
pub split-push : {A : Type 0} (xs first rest : List A) (y x : A) → xs ++ y ∷ [] ≡ first ++ x ∷ rest → ((mid : List A) × (xs ≡ first ++ x ∷ mid) × (rest ≡ mid ++ y ∷ [])) ⊎ ((first ≡ xs) × (y ≡ x))
split-push {A} xs first rest y x e =
    elim (split-append xs (y ∷ []) first rest x e) [
      | inl w ↦ inl w
      | inr w ↦ inr (last xs first rest y x w.0 w.1 w.2)
    ]
  where
    last : {A : Type 0} (xs first rest : List A) (y x : A) (mid : List A) → first ≡ xs ++ mid → y ∷ [] ≡ mid ++ x ∷ rest → (first ≡ xs) × (y ≡ x)
    last xs first rest y x [] is e = (is ∙ append-nil xs, cc)
    last xs first rest y x (z ∷ mid) is e = let none : [] ≡ mid ++ x ∷ rest = cc in absurd (no-split mid rest x none)
