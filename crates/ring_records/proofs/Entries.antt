-- Entries in the order of their keys: what is found among them.
use Rattle.std.proofs.Common.{◌≡◌, Bool, true, false, cond, ◌&&◌, List, [], ◌∷◌, Some, None, Ordering, Less, Equal, Greater, refl, sym, ap, ◌∙◌, subst}
use Rattle.std.specs.Cmp.{IsTotalOrder}
use Rattle.std.specs.FinMap.{IsAntisymmetric, find, is_sorted}
use Rattle.std.specs.FinMap.Entries.{below_all}
use Rattle.std.specs.List.{AllByRecursion}
use Rattle.std.specs.Ordering.{is_eq, is_lt}
use Rattle.std.specs.Prelude.{T}
use Rattle.std.proofs.lemmas.Cmp.{tied_itself}
use Rattle.std.proofs.lemmas.Option.{same_Some}
use Rattle.ring_records.proofs.Lists.{none≢some}

pub both : (a b : Bool) → T a → T b → T (a && b)
both true b p q = q
both false b p q = absurd p

pub first_of : (a b : Bool) → T (a && b) → T a
first_of true b p = tt
first_of false b p = p

pub second_of : (a b : Bool) → T (a && b) → T b
second_of true b p = p
second_of false b p = absurd p

pub is_less : (o : Ordering) → o ≡ Less → T (is_lt o)
is_less o e = subst (λ p. T (is_lt p)) (sym e) tt

pub less_is : (o : Ordering) → T (is_lt o) → o ≡ Less
less_is Less p = refl
less_is Equal p = absurd p
less_is Greater p = absurd p

not_less : (o : Ordering) → T (is_lt o) → is_eq o ≡ false
not_less Less p = refl
not_less Equal p = absurd p
not_less Greater p = absurd p

module _ {K V : Type 0} (R : K → K → Ordering) where
  -- a key that is less than all others is not among them
  pub unfound : (k : K) (es : List (K × V)) → T (below_all R k es) → find R k es ≡ None
  unfound k [] h = refl
  unfound k (e ∷ es) h =
      ap (λ b. cond b (Some e.1) (find R k es)) (not_less (R k e.0) (first_of (is_lt (R k e.0)) (below_all R k es) h))
      ∙ unfound k es (second_of (is_lt (R k e.0)) (below_all R k es) h)

  -- what holds of each value that is found holds of each entry
  pub each-entry : IsTotalOrder R → IsAntisymmetric R → (P : K → V → Type 0) (es : List (K × V)) → T (is_sorted R es) → ((k : K) (v : V) → find R k es ≡ Some v → P k v)
      → AllByRecursion (λ e. P e.0 e.1) es
  each-entry total exact P [] h holds = tt
  each-entry total exact P (e ∷ es) h holds = (
    holds e.0 e.1 (ap (λ o. cond (is_eq o) (Some e.1) (find R e.0 es)) (tied_itself total e.0)),
    each-entry total exact P es (second_of (below_all R e.0 es) _ h) (λ k v found. holds k v (later k v found (R k e.0) refl)),
  )
    where
      later : (k : K) (v : V) → find R k es ≡ Some v → (o : Ordering) → R k e.0 ≡ o → cond (is_eq o) (Some e.1) (find R k es) ≡ Some v
      later k v found Less p = found
      later k v found Equal p = absurd (none≢some v (sym (unfound e.0 es (first_of (below_all R e.0 es) _ h)) ∙ (ap (λ (j : K). find R j es) (sym (exact k e.0 p)) ∙ found)))
      later k v found Greater p = found

  -- and what holds of each entry holds of what is found
  pub found-entry : IsAntisymmetric R → (P : K → V → Type 0) (es : List (K × V)) → AllByRecursion (λ e. P e.0 e.1) es → (k : K) (v : V) → find R k es ≡ Some v → P k v
  found-entry exact P [] each k v found = none≢some v found
  found-entry exact P (e ∷ es) each k v found = go (found-entry exact P es each.1 k v) (R k e.0) refl found
    where
      go : (find R k es ≡ Some v → P k v) → (o : Ordering) → R k e.0 ≡ o → cond (is_eq o) (Some e.1) (find R k es) ≡ Some v → P k v
      go later Less p f = later f
      go later Equal p f = subst (λ (q : K × V). P q.0 q.1) (λ i. (sym (exact k e.0 p) i, same_Some e.1 v f i)) each.0
      go later Greater p f = later f
