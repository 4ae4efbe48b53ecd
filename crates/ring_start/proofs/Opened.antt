-- A ring that goes on from one that fits.
use Rattle.std.proofs.Common.{ℕ, ◌≡◌, ◌+◌, ◌-◌, zero, suc, List, [], ◌∷◌, ◌++◌, length, slice_get, Some, refl, ap, sym, ◌∙◌, subst}
use Rattle.std.specs.List.{AllZip}
use Rattle.ring_records.specs.declared.input.Input.{Input}
use Rattle.ring_records.specs.declared.summary.Summary.{Summary}
use Rattle.ring_records.specs.Fitting.{RingFits}
use Rattle.ring_records.specs.Member.{Member}
use Rattle.ring_records.specs.Place.{after}
use Rattle.group_commit.specs.Desk.{DeskKept}
use Rattle.group_commit.specs.Past.{IsPast}
use Rattle.ring_start.specs.Fits.{IsInOrder, inputs_there, opening_there, opening_of, history, IsKnown, IsKnownTo, ArePasts, Fits}
use Rattle.ring_start.specs.Written.{GoesOn}

-- one more of both
pub AllZip-more : {A B : Type 0} (R : A → B → Type 0) (xs : List A) (ys : List B) (x : A) (y : B) → AllZip R xs ys → R x y → AllZip R (xs ++ x ∷ []) (ys ++ y ∷ [])
AllZip-more R [] [] x y h r = (r, tt)
AllZip-more R [] (b ∷ ys) x y h r = absurd h
AllZip-more R (a ∷ xs) [] x y h r = absurd h
AllZip-more R (a ∷ xs) (b ∷ ys) x y h r = (h.0, AllZip-more R xs ys x y h.1 r)

pub AllZip-weaker : {A B : Type 0} (R S : A → B → Type 0) → ((x : A) (y : B) → R x y → S x y) → (xs : List A) (ys : List B) → AllZip R xs ys → AllZip S xs ys
AllZip-weaker R S f [] [] h = tt
AllZip-weaker R S f [] (b ∷ ys) h = absurd h
AllZip-weaker R S f (a ∷ xs) [] h = absurd h
AllZip-weaker R S f (a ∷ xs) (b ∷ ys) h = (f a b h.0, AllZip-weaker R S f xs ys h.1)

pub AllZip-length : {A B : Type 0} (R : A → B → Type 0) (xs : List A) (ys : List B) → AllZip R xs ys → length ys ≡ length xs
AllZip-length R [] [] h = refl
AllZip-length R [] (b ∷ ys) h = absurd h
AllZip-length R (a ∷ xs) [] h = absurd h
AllZip-length R (a ∷ xs) (b ∷ ys) h = ap suc (AllZip-length R xs ys h.1)

-- the other one of a pair
record Other {A B : Type 0} (R : A → B → Type 0) (xs : List A) (k : ℕ) (y : B) : Type 0 where
  x : A
  there : slice_get xs k ≡ Some x
  related : R x y

record Next {A B : Type 0} (R : A → B → Type 0) (ys : List B) (k : ℕ) (x : A) : Type 0 where
  y : B
  there : slice_get ys k ≡ Some y
  related : R x y

some_same : {X : Type 0} (x y : X) → Some x ≡ Some y → x ≡ y
some_same x y e = cc

before : {A B : Type 0} (R : A → B → Type 0) (xs : List A) (ys : List B) → AllZip R xs ys → (k : ℕ) (y : B) → slice_get ys k ≡ Some y → Other R xs k y
before R [] [] h k y e = absurd cc
before R [] (b ∷ ys) h k y e = absurd h
before R (a ∷ xs) [] h k y e = absurd h
before R (a ∷ xs) (b ∷ ys) h zero y e = record { x = a; there = refl; related = subst (R a) (some_same b y e) h.0 }
before R (a ∷ xs) (b ∷ ys) h (suc k) y e = let o = before R xs ys h.1 k y e in record { x = o.x; there = o.there; related = o.related }

behind : {A B : Type 0} (R : A → B → Type 0) (xs : List A) (ys : List B) → AllZip R xs ys → (k : ℕ) (x : A) → slice_get xs k ≡ Some x → Next R ys k x
behind R [] [] h k x e = absurd cc
behind R [] (b ∷ ys) h k x e = absurd h
behind R (a ∷ xs) [] h k x e = absurd h
behind R (a ∷ xs) (b ∷ ys) h zero x e = record { y = b; there = refl; related = subst (λ z. R z b) (some_same a x e) h.0 }
behind R (a ∷ xs) (b ∷ ys) h (suc k) x e = let o = behind R xs ys h.1 k x e in record { y = o.y; there = o.there; related = o.related }

module _ {A B : Type 0} (f : A → DeskKept) (g : B → DeskKept) where
  -- each goes on from the one at its place
  abbrev pub GoOn : List A → List B → Type 0
  GoOn xs ys = AllZip (λ x y. GoesOn (f x) (g y)) xs ys

  same_inputs : (xs : List A) (ys : List B) → GoOn xs ys → (k : ℕ) → inputs_there f (slice_get xs k) ≡ inputs_there g (slice_get ys k)
  same_inputs [] [] h k = refl
  same_inputs [] (b ∷ ys) h k = absurd h
  same_inputs (a ∷ xs) [] h k = absurd h
  same_inputs (a ∷ xs) (b ∷ ys) h zero = sym h.0.inputs
  same_inputs (a ∷ xs) (b ∷ ys) h (suc k) = same_inputs xs ys h.1 k

  same_openings : (xs : List A) (ys : List B) → GoOn xs ys → (k : ℕ) → opening_there f (slice_get xs k) ≡ opening_there g (slice_get ys k)
  same_openings [] [] h k = refl
  same_openings [] (b ∷ ys) h k = absurd h
  same_openings (a ∷ xs) [] h k = absurd h
  same_openings (a ∷ xs) (b ∷ ys) h zero = sym h.0.opening
  same_openings (a ∷ xs) (b ∷ ys) h (suc k) = same_openings xs ys h.1 k

  pub in_order : (xs : List A) (ys : List B) → GoOn xs ys → IsInOrder f xs → IsInOrder g ys
  in_order xs ys h order k y e =
      let o = before (λ x y. GoesOn (f x) (g y)) xs ys h k y e in
      ap (λ (m : Member). m.node) o.related.member ∙ order k o.x o.there

  pasts_before : (pasts : ℕ → List Input) (xs : List A) (ys : List B) → GoOn xs ys → ArePasts g pasts ys → ArePasts f pasts xs
  pasts_before pasts xs ys h are k x e =
      let o = behind (λ x y. GoesOn (f x) (g y)) xs ys h k x e in
      subst (λ (m : Member). IsPast m (f x).opening (pasts (k + 1))) o.related.member
      (subst (λ (s : Summary). IsPast (g o.y).view.member s (pasts (k + 1))) o.related.opening (are k o.y o.there))

  pub fits : (n : ℕ) (xs : List A) (ys : List B) → GoOn xs ys → Fits f n xs → Fits g n ys
  fits n xs ys h fit pasts are =
      let openings : (k : ℕ) → opening_of f xs k ≡ opening_of g ys k = λ k. same_openings xs ys h (k - 1) in
      subst (λ (o : ℕ → Summary). RingFits n (λ i. IsKnownTo (o i) (o (after n i))) (history g pasts ys)) (λ i k. openings k i)
      (subst (RingFits n (IsKnown f n xs)) (λ i k. pasts k ++ same_inputs xs ys h (k - 1) i) (fit pasts (pasts_before pasts xs ys h are)))
