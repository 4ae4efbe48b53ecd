-- The floors that are kept are those that are told.
use Rattle.std.proofs.Common.{ℕ, ◌≡◌, ◌+◌, ◌<◌, cond, List, [], ◌∷◌, ◌++◌, map as list_map, length, Some, Less, refl, sym, ap, ◌∙◌, append-nil}
use Rattle.std.specs.FinMap as fin
use Rattle.std.specs.FinMap.{find}
use Rattle.std.specs.List.{AllByRecursion}
use Rattle.std.specs.List.Sorted.{IsStrictlySortedBy}
use Rattle.std.specs.Map.{lookup}
use Rattle.std.specs.Ordering.{is_eq}
use Rattle.std.specs.Cmp.{eq_by_cmp_equiv}
use Rattle.std.proofs.lemmas.List.{length-map}
use Rattle.ring_records.specs.declared.key.Key.{Key}
use Rattle.ring_records.specs.Floors.{as_key}
use Rattle.ring_records.specs.FloorLists.{by_group, under_group, floored}
use Rattle.ring_records.specs.KeyOrder.{group_cmp}
use Rattle.ring_records.proofs.FloorsInOrder.{groups_total, groups_exact, keys-floored, len-floors}

find-lookup : (group : List ℕ) (es : List (List ℕ × ℕ)) → find group_cmp group es ≡ lookup (λ g. is_eq (group_cmp group g)) es
find-lookup group [] = refl
find-lookup group (e ∷ es) = ap (cond (is_eq (group_cmp group e.0)) (Some e.1)) (find-lookup group es)

pub get-floor : (es : List (List ℕ × ℕ)) (group : List ℕ) → fin.get (fin.from_entries {R = group_cmp} es) group ≡ lookup (λ g. is_eq (group_cmp group g)) es
get-floor es group = fin.get-from_entries groups_total es group ∙ find-lookup group es

-- one group gets a floor
pub insert-floor : (old new : List (List ℕ × ℕ)) (group : List ℕ) (floor : ℕ)
    → ((other : List ℕ) → lookup (λ g. is_eq (group_cmp other g)) new ≡ cond (is_eq (group_cmp group other)) (Some floor) (lookup (λ g. is_eq (group_cmp other g)) old))
    → fin.from_entries {R = group_cmp} new ≡ fin.insert (fin.from_entries old) group floor
insert-floor old new group floor put = fin.same_map groups_total groups_exact _ _ (λ other.
    get-floor new other ∙ (put other ∙ ((λ i. cond ((eq_by_cmp_equiv groups_total).symm group other i) (Some floor) (sym (get-floor old other) i))
    ∙ sym (fin.get-insert groups_total (fin.from_entries old) group floor other))))

-- ---- the list of those that are kept

below : (g : List ℕ) (es : List (List ℕ × ℕ)) → AllByRecursion (λ (j : List ℕ). group_cmp g j ≡ Less) (list_map (λ e. e.0) es) → AllByRecursion (λ f. group_cmp g f.group ≡ Less) (list_map as_key es)
below g [] a = tt
below g (e ∷ es) a = (a.0, below g es a.1)

pub sorted_floors : (es : List (List ℕ × ℕ)) → IsStrictlySortedBy group_cmp (list_map (λ e. e.0) es) → IsStrictlySortedBy by_group (list_map as_key es)
unfolding IsStrictlySortedBy
sorted_floors [] s = tt
sorted_floors (e ∷ es) s = (below e.0 es s.0, sorted_floors es s.1)

forth : (es : List (List ℕ × ℕ)) → list_map under_group (list_map as_key es) ≡ es
forth [] = refl
forth (e ∷ es) = ap (λ l. e ∷ l) (forth es)

pub floored-entries : (es : List (List ℕ × ℕ)) → floored (list_map as_key es) ≡ fin.from_entries es
floored-entries es = ap (λ (l : List (List ℕ × ℕ)). fin.from_entries {R = group_cmp} l) (forth es)

-- there are as many as entries
pub len-floored : (es : List (List ℕ × ℕ)) → IsStrictlySortedBy group_cmp (list_map (λ e. e.0) es) → length es ≡ fin.len (fin.from_entries {R = group_cmp} es)
len-floored es sorted =
    sym (length-map es as_key) ∙ (ap length (sym (keys-floored (list_map as_key es) (sorted_floors es sorted)))
    ∙ (len-floors (floored (list_map as_key es)) ∙ ap fin.len (floored-entries es)))

-- a loop over the entries, at its end
pub all_listed : (items : List Key) (left es : List (List ℕ × ℕ)) → items ++ list_map as_key left ≡ list_map as_key es → left ≡ [] → items ≡ list_map as_key es
all_listed items left es e none = sym (ap (λ l. items ++ list_map as_key l) none ∙ append-nil items) ∙ e
