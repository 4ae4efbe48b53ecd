-- A search for a key among floors in order ends where a floor of its group that is above its term would stand.
use Rattle.std.proofs.Common.{ℕ, zero, suc, ◌≡◌, ◌+◌, ◌-◌, ◌<◌, ◌≤◌, inl, inr, Bool, true, false, cond, ltb, Ordering, Less, Equal, Greater, Option, Some, None, List, [], ◌∷◌, map as list_map, length, get_or, refl, sym, ap, ◌∙◌, arith}
use Rattle.std.specs.FinMap as fin
use Rattle.std.specs.FinMap.{find}
use Rattle.std.specs.List.{AllByRecursion}
use Rattle.std.specs.List.Sorted.{IsStrictlySortedBy, IsSortedBy, IsNonDecreasingBy}
use Rattle.std.specs.Ordering.{is_eq, is_lt, nat_cmp, ordering_then, ordering_reverse, ordering_index}
use Rattle.std.specs.Prelude.{unwrap_or}
use Rattle.std.specs.Str.{bytes_eq}
use Rattle.std.proofs.lemmas.Bool.{cases_lt, lt-ltb, le-ltb}
use Rattle.std.proofs.lemmas.Cmp.{tied_itself, ranked}
use Rattle.std.proofs.lemmas.List.{get_or_default}
use Rattle.std.proofs.lemmas.List.Sorted.{searchable_from_sorted}
use Rattle.std.proofs.lemmas.Map.Keys.{Less-from_sorted}
use Rattle.std.proofs.lemmas.Option.{same_Some}
use Rattle.std.proofs.lemmas.Slice.Eq.{bytes_eq-Decides}
use Rattle.ring_records.specs.declared.key.Key.{Key}
use Rattle.ring_records.specs.declared.key_state.KeyState.{KeyState}
use Rattle.ring_records.specs.FloorOf.{is_below_floor}
use Rattle.ring_records.specs.FloorLists.{by_group, under_group, floored}
use Rattle.ring_records.specs.KeyOrder.{group_cmp, key_cmp}
use Rattle.ring_records.specs.SnapshotRead.{IsLiveState}
use Rattle.ring_records.proofs.Compare.{keys_total, keys_exact}
use Rattle.ring_records.proofs.FloorsInOrder.{groups_total, groups_exact}
use Rattle.ring_records.proofs.Lists.{none≢some}

-- ---- orders of two keys

then_less : (o p : Ordering) → o ≡ Less → ordering_then o p ≡ Less
then_less o p e = ap (λ q. ordering_then q p) e

flipped : (a b : Key) → key_cmp a b ≡ Less → is_lt (key_cmp b a) ≡ false
flipped a b e = ap is_lt (keys_total.antisymm b a ∙ ap ordering_reverse e)

-- of one group, keys go by their terms
alike : (a b : Key) → a.group ≡ b.group → key_cmp a b ≡ nat_cmp a.term b.term
alike a b e = ap (λ (g : List ℕ). ordering_then (group_cmp g b.group) (nat_cmp a.term b.term)) e ∙ ap (λ o. ordering_then o (nat_cmp a.term b.term)) (tied_itself groups_total b.group)

above : (a b : Key) → a.group ≡ b.group → key_cmp a b ≡ Greater → b.term < a.term
above a b same e = ranked a.term b.term Greater (sym (sym (alike a b same) ∙ e))

under : (a b : Key) → a.group ≡ b.group → key_cmp a b ≡ Less → a.term < b.term
under a b same e = ranked a.term b.term Less (sym (sym (alike a b same) ∙ e))

module _ (fs : List Key) (sorted : IsStrictlySortedBy by_group fs) where
  keys_rise : IsSortedBy (λ a b. is_lt (key_cmp a b)) fs
  keys_rise k d low inside =
      flipped (get_or fs k d) (get_or fs (k + 1) d) (then_less (by_group (get_or fs k d) (get_or fs (k + 1) d)) _ (Less-from_sorted by_group fs k (k + 1) d sorted (omega arith) inside))

  pub searchable : (key : Key) → IsNonDecreasingBy (λ y. ordering_index (key_cmp y key)) fs
  searchable key = searchable_from_sorted keys_total (λ k. k) fs key keys_rise

-- ---- what is found among floors in order

-- the floor f of g stands somewhere in the list
abbrev Stands : List ℕ → List Key → ℕ → Type 0
Stands g fs f = (k : ℕ) × (k < length fs) × ((d : Key) → (get_or fs k d).group ≡ g) × ((d : Key) → (get_or fs k d).term ≡ f)

somewhere : (g : List ℕ) (fs : List Key) (f : ℕ) → find group_cmp g (list_map under_group fs) ≡ Some f → Stands g fs f
somewhere g [] f e = none≢some f e
somewhere g (x ∷ fs) f e = go (group_cmp g x.group) refl e (λ found. let (k, inside, group, term) = somewhere g fs f found in (suc k, omega arith, group, term))
  where
    go : (o : Ordering) → group_cmp g x.group ≡ o → cond (is_eq o) (Some x.term) (find group_cmp g (list_map under_group fs)) ≡ Some f
        → (find group_cmp g (list_map under_group fs) ≡ Some f → Stands g (x ∷ fs) f) → Stands g (x ∷ fs) f
    go Less p found later = later found
    go Equal p found later = (0, omega arith, (λ d. sym (groups_exact g x.group p)), (λ d. same_Some x.term f found))
    go Greater p found later = later found

-- the floor that stands at a place is found
found_at : (fs : List Key) (i : ℕ) (d : Key) → IsStrictlySortedBy by_group fs → i < length fs → find group_cmp (get_or fs i d).group (list_map under_group fs) ≡ Some (get_or fs i d).term
unfolding IsStrictlySortedBy
found_at [] i d sorted inside = absurd (omega (arith, inside))
found_at (x ∷ fs) zero d sorted inside = ap (λ o. cond (is_eq o) (Some x.term) (find group_cmp x.group (list_map under_group fs))) (tied_itself groups_total x.group)
found_at (x ∷ fs) (suc i) d sorted inside =
    let f : Key = get_or fs i d in
    let less : by_group x f ≡ Less = Less-from_sorted by_group (x ∷ fs) 0 (suc i) d sorted (omega arith) inside in
    let apart : group_cmp f.group x.group ≡ Greater = groups_total.antisymm f.group x.group ∙ ap ordering_reverse less in
    ap (λ o. cond (is_eq o) (Some x.term) (find group_cmp f.group (list_map under_group fs))) apart ∙ found_at fs i d sorted.1 (omega (arith, inside))

-- ---- which keys are below a floor

below_of : Key → Option ℕ → Bool
below_of key o = ltb key.term (unwrap_or o 0)

module _ (fs : List Key) (sorted : IsStrictlySortedBy by_group fs) (key : Key) where
  told : is_below_floor (floored fs) key ≡ below_of key (find group_cmp key.group (list_map under_group fs))
  unfolding below_of
  told = ap (λ o. ltb key.term (unwrap_or o 0)) (fin.get-from_entries groups_total (list_map under_group fs) key.group)

  found_same : (i : ℕ) (d : Key) → i < length fs → (get_or fs i d).group ≡ key.group → find group_cmp key.group (list_map under_group fs) ≡ Some (get_or fs i d).term
  found_same i d inside same = ap (λ (g : List ℕ). find group_cmp g (list_map under_group fs)) (sym same) ∙ found_at fs i d sorted inside

  -- the key is a floor itself
  pub at_floor : (i : ℕ) → i < length fs → ((d : Key) → key_cmp (get_or fs i d) key ≡ Equal) → is_below_floor (floored fs) key ≡ false
  unfolding below_of
  at_floor i inside equal =
      let same : get_or fs i key ≡ key = keys_exact (get_or fs i key) key (equal key) in
      told ∙ (ap (below_of key) (found_same i key inside (ap (λ (k : Key). k.group) same)) ∙ le-ltb key.term (get_or fs i key).term (omega (arith, ap (λ (k : Key). k.term) same)))

  module _ (i : ℕ) (before : (k : ℕ) (d : Key) → k < i → key_cmp (get_or fs k d) key ≡ Less) (behind : (k : ℕ) (d : Key) → i ≤ k → k < length fs → key_cmp (get_or fs k d) key ≡ Greater) where
    -- the floor at the place is one of the key's group
    pub below_it : (d : Key) → i < length fs → (get_or fs i d).group ≡ key.group → is_below_floor (floored fs) key ≡ true
    unfolding below_of
    below_it d inside same =
        told ∙ (ap (below_of key) (found_same i d inside same) ∙ lt-ltb key.term (get_or fs i d).term (above (get_or fs i d) key same (behind i d (omega arith) inside)))

    -- a floor of the key's group that stands there or later stands there
    stands_there : (k : ℕ) → k < length fs → (get_or fs k key).group ≡ key.group → i ≤ k → ((d : Key) → i < length fs → (get_or fs i d).group ≡ key.group → ⊥) → ⊥
    stands_there k inside same later other = elim (cases_lt i k) [
      | inl less ↦ (
          let rises : by_group (get_or fs i key) (get_or fs k key) ≡ Less = Less-from_sorted by_group fs i k key sorted less inside in
          let less_group : group_cmp (get_or fs i key).group key.group ≡ Less = ap (group_cmp (get_or fs i key).group) (sym same) ∙ rises in
          let both = sym (then_less (by_group (get_or fs i key) key) (nat_cmp (get_or fs i key).term key.term) less_group) ∙ behind i key (omega arith) (omega (arith, less, inside)) in
          cc both)
      | inr le ↦ (let same_place : k ≡ i = omega (arith, le, later) in
          other key (omega (arith, same_place, inside)) (ap (λ (j : ℕ). (get_or fs j key).group) (sym same_place) ∙ same))
    ]

    -- or there is none
    pub not_below : ((d : Key) → i < length fs → (get_or fs i d).group ≡ key.group → ⊥) → is_below_floor (floored fs) key ≡ false
    unfolding below_of
    not_below other = told ∙ go (find group_cmp key.group (list_map under_group fs)) refl
      where
        go : (o : Option ℕ) → find group_cmp key.group (list_map under_group fs) ≡ o → below_of key o ≡ false
        go None e = le-ltb key.term 0 (omega arith)
        go (Some f) e =
            let (k, inside, group, term) = somewhere key.group fs f e in
            elim (cases_lt k i) [
              | inl less ↦ le-ltb key.term f (omega (arith, under (get_or fs k key) key (group key) (before k key less), term key))
              | inr later ↦ absurd (stands_there k inside (group key) later other)
            ]

    -- so the group at the place decides
    pub group_decides : (d : Key) → i < length fs → (b : Bool) → b ≡ bytes_eq (get_or fs i d).group key.group → b ≡ is_below_floor (floored fs) key
    group_decides d inside true same = sym (below_it d inside ((bytes_eq-Decides (get_or fs i d).group key.group).0 (sym same)))
    group_decides d inside false other =
        sym (not_below (λ e within there. let is = other ∙ (bytes_eq-Decides (get_or fs i d).group key.group).1 (ap (λ (k : Key). k.group) (get_or_default fs i d e inside) ∙ there) in absurd cc))

-- ---- the states of a list

-- the first i are not below a floor
abbrev pub LiveTo : fin.FinMap group_cmp ℕ → List KeyState → ℕ → Type 0
LiveTo m states i = (k : ℕ) (d : KeyState) → k < i → k < length states → IsLiveState m (get_or states k d)

pub live_at : (m : fin.FinMap group_cmp ℕ) (states : List KeyState) (i : ℕ) (d : KeyState) → AllByRecursion (IsLiveState m) states → i < length states → IsLiveState m (get_or states i d)
live_at m [] i d each inside = absurd (omega (arith, inside))
live_at m (s ∷ states) zero d each inside = each.0
live_at m (s ∷ states) (suc i) d each inside = live_at m states i d each.1 (omega (arith, inside))
