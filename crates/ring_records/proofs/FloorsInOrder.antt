-- The floors that a map has are those of the list that makes it, where that is in order.
use Rattle.std.proofs.Common.{ℕ, ◌≡◌, ◌+◌, ◌-◌, ◌<◌, ◌≤◌, Less, List, [], ◌∷◌, map as list_map, length, get_or, suc, refl, sym, ap, ◌∙◌, arith, Some}
use Rattle.std.specs.Cmp.{IsTotalOrder}
use Rattle.std.specs.Cmp.Lexicographic.{nat_list_cmp_total}
use Rattle.std.specs.FinMap as fin
use Rattle.std.specs.FinMap.{IsAntisymmetric, is_sorted, slice_cmp-IsAntisymmetric, nat_cmp-IsAntisymmetric, find}
use Rattle.std.specs.FinMap.Entries.{below_all}
use Rattle.std.specs.List.{AllByRecursion}
use Rattle.std.specs.List.Sorted.{IsStrictlySortedBy}
use Rattle.std.specs.Ordering.{is_lt}
use Rattle.std.specs.Prelude.{T}
use Rattle.std.proofs.lemmas.Cmp.{on_total}
use Rattle.std.proofs.lemmas.List.{get_or_read}
use Rattle.std.proofs.lemmas.Map.Keys.{sorted_from_all_adjacent, Less-from_sorted}
use Rattle.ring_records.specs.declared.key.Key.{Key}
use Rattle.ring_records.specs.Floors.{as_key, floor_keys}
use Rattle.ring_records.specs.FloorLists.{by_group, under_group, floored}
use Rattle.ring_records.specs.KeyOrder.{group_cmp}
use Rattle.ring_records.proofs.Entries.{both, first_of, second_of, is_less, less_is, each-entry, found-entry}

pub groups_total : IsTotalOrder group_cmp
groups_total = nat_list_cmp_total

pub groups_exact : IsAntisymmetric group_cmp
groups_exact = slice_cmp-IsAntisymmetric nat_cmp-IsAntisymmetric

-- ---- a list in order makes a map of the same floors

below : (f : Key) (fs : List Key) → AllByRecursion (λ g. by_group f g ≡ Less) fs → T (below_all group_cmp f.group (list_map under_group fs))
below f [] a = tt
below f (g ∷ fs) a = both (is_lt (group_cmp f.group g.group)) _ (is_less (by_group f g) a.0) (below f fs a.1)

in_order : (fs : List Key) → IsStrictlySortedBy by_group fs → T (is_sorted group_cmp (list_map under_group fs))
unfolding IsStrictlySortedBy
in_order [] s = tt
in_order (f ∷ fs) s = both _ _ (below f fs s.0) (in_order fs s.1)

back : (fs : List Key) → list_map as_key (list_map under_group fs) ≡ fs
back [] = refl
back (f ∷ fs) = ap (λ l. f ∷ l) (back fs)

pub keys-floored : (fs : List Key) → IsStrictlySortedBy by_group fs → floor_keys (floored fs) ≡ fs
keys-floored fs sorted =
    let es = list_map under_group fs in
    let same : floored fs ≡ fin.from_sorted es = fin.same_map groups_total groups_exact _ _ (λ q.
    fin.get-from_entries groups_total es q ∙ sym (fin.get-from_sorted group_cmp es q (in_order fs sorted))) in
    ap floor_keys same ∙ (ap (list_map as_key) (fin.entries-from_sorted group_cmp es (in_order fs sorted)) ∙ back fs)

-- ---- the floors of a map are in order, and make it again

length-keys : (es : List (List ℕ × ℕ)) → length (list_map as_key es) ≡ length es
length-keys [] = refl
length-keys (e ∷ es) = ap suc (length-keys es)

pub len-floors : (m : fin.FinMap group_cmp ℕ) → length (floor_keys m) ≡ fin.len m
len-floors m = length-keys (fin.entries m) ∙ sym (fin.len-entries m)

below-keys : (g : List ℕ) (es : List (List ℕ × ℕ)) → T (below_all group_cmp g es) → AllByRecursion (λ f. group_cmp g f.group ≡ Less) (list_map as_key es)
below-keys g [] h = tt
below-keys g (e ∷ es) h = (less_is (group_cmp g e.0) (first_of (is_lt (group_cmp g e.0)) _ h), below-keys g es (second_of (is_lt (group_cmp g e.0)) _ h))

keys-sorted : (es : List (List ℕ × ℕ)) → T (is_sorted group_cmp es) → IsStrictlySortedBy by_group (list_map as_key es)
unfolding IsStrictlySortedBy
keys-sorted [] h = tt
keys-sorted (e ∷ es) h = (below-keys e.0 es (first_of (below_all group_cmp e.0 es) _ h), keys-sorted es (second_of (below_all group_cmp e.0 es) _ h))

pub floors-sorted : (m : fin.FinMap group_cmp ℕ) → IsStrictlySortedBy by_group (floor_keys m)
floors-sorted m = keys-sorted (fin.entries m) (fin.entries_sorted m)

forth : (es : List (List ℕ × ℕ)) → list_map under_group (list_map as_key es) ≡ es
forth [] = refl
forth (e ∷ es) = ap (λ l. e ∷ l) (forth es)

pub floored-keys : (m : fin.FinMap group_cmp ℕ) → floored (floor_keys m) ≡ m
floored-keys m = fin.same_map groups_total groups_exact _ _ (λ q.
    fin.get-from_entries groups_total (list_map under_group (floor_keys m)) q ∙ (ap (find group_cmp q) (forth (fin.entries m)) ∙ sym (fin.get-entries m q)))

-- ---- what holds of the floors

mapped : (P : Key → Type 0) (es : List (List ℕ × ℕ)) → AllByRecursion (λ e. P (as_key e)) es → AllByRecursion P (list_map as_key es)
mapped P [] each = tt
mapped P (e ∷ es) each = (each.0, mapped P es each.1)

pub each-floor : (P : Key → Type 0) (m : fin.FinMap group_cmp ℕ) → ((group : List ℕ) (floor : ℕ) → fin.get m group ≡ Some floor → P (as_key (group, floor))) → AllByRecursion P (floor_keys m)
each-floor P m holds =
    mapped P (fin.entries m) (each-entry group_cmp groups_total groups_exact (λ g f. P (as_key (g, f))) (fin.entries m) (fin.entries_sorted m) (λ g f found. holds g f (fin.get-entries m g ∙ found)))

unmapped : (P : Key → Type 0) (fs : List Key) → AllByRecursion P fs → AllByRecursion (λ e. P (as_key e)) (list_map under_group fs)
unmapped P [] each = tt
unmapped P (f ∷ fs) each = (each.0, unmapped P fs each.1)

pub floor-found : (P : Key → Type 0) (fs : List Key) → AllByRecursion P fs → (group : List ℕ) (floor : ℕ) → fin.get (floored fs) group ≡ Some floor → P (as_key (group, floor))
floor-found P fs each group floor e =
    found-entry group_cmp groups_exact (λ g f. P (as_key (g, f))) (list_map under_group fs) (unmapped P fs each) group floor (sym (fin.get-from_entries groups_total (list_map under_group fs) group) ∙ e)

-- ---- floors next to each other

pub floors_total : IsTotalOrder by_group
floors_total = on_total (λ (f : Key). f.group) groups_total

-- the first i floors rise
abbrev pub FloorsRiseTo : List Key → ℕ → Type 0
FloorsRiseTo floors i = (k : ℕ) (d : Key) → k + 1 < i → k + 1 < length floors → by_group (get_or floors k d) (get_or floors (k + 1) d) ≡ Less

pub floors_rise_all : (floors : List Key) (i : ℕ) → FloorsRiseTo floors i → length floors ≤ i → IsStrictlySortedBy by_group floors
unfolding IsStrictlySortedBy
floors_rise_all [] i so_far all = tt
floors_rise_all (f ∷ fs) i so_far all = sorted_from_all_adjacent floors_total (f ∷ fs) f (λ k inside. so_far k f (omega arith) inside)

pub floors_rising_at : (floors : List Key) (i : ℕ) (a b : Key) → 1 ≤ i → i < length floors → a ≡ get_or floors (i - 1) a → b ≡ get_or floors i b → IsStrictlySortedBy by_group floors
    → by_group a b ≡ Less
floors_rising_at floors i a b from inside at_a at_b sorted =
    (λ j. by_group (at_a j) (get_or_read floors i b inside at_b a j)) ∙ Less-from_sorted by_group floors (i - 1) i a sorted (omega arith) inside
