-- The bytes of floors, once one group gets a floor.
use Rattle.std.proofs.Common.{ℕ, ◌≡◌, ◌+◌, cond, List, [], ◌∷◌, length, Some, Ordering, Less, Equal, Greater, refl, sym, ap, ◌∙◌, subst, arith, map as list_map}
use Rattle.std.specs.FinMap as map
use Rattle.std.specs.FinMap.{find, put, is_sorted}
use Rattle.std.specs.FinMap.Entries.{below_all, by_order, is_sorted-put}
use Rattle.std.specs.List.{sum_by}
use Rattle.std.specs.Ordering.{is_eq, is_lt}
use Rattle.std.specs.Prelude.{T, is_some}
use Rattle.std.proofs.lemmas.List.Sums.{sum_by-cons}
use Rattle.ring_records.specs.Admission.{floor_len}
use Rattle.ring_records.specs.Floors.{as_key, floor_keys}
use Rattle.ring_records.specs.KeyOrder.{group_cmp}
use Rattle.ring_records.proofs.Entries.{first_of, second_of, unfound}
use Rattle.ring_records.proofs.FloorsInOrder.{groups_total}

abbrev total : List (List ℕ × ℕ) → ℕ
total es = sum_by floor_len (list_map as_key es)

cons : (e : List ℕ × ℕ) (es : List (List ℕ × ℕ)) → total (e ∷ es) ≡ (5 + length e.0) + total es
cons e es = sum_by-cons floor_len (as_key e) (list_map as_key es)

abbrev IsPut : List ℕ → ℕ → List (List ℕ × ℕ) → Type 0
IsPut g f es = total (put group_cmp g f es) ≡ total es + cond (is_some (find group_cmp g es)) 0 (5 + length g)

put-total : (g : List ℕ) (f : ℕ) (es : List (List ℕ × ℕ)) → T (is_sorted group_cmp es) → IsPut g f es
put-total g f [] h = let one = cons (g, f) [] in omega arith
put-total g f (e ∷ es) h = go (group_cmp g e.0) refl (put-total g f es (second_of (below_all group_cmp e.0 es) (is_sorted group_cmp es) h)) (is_sorted-put group_cmp groups_total g f (e ∷ es) h)
  where
    go : (o : Ordering) → group_cmp g e.0 ≡ o → IsPut g f es
        → T (is_sorted group_cmp (by_order (group_cmp g e.0) ((g, f) ∷ e ∷ es) ((e.0, f) ∷ es) (e ∷ put group_cmp g f es)))
        → total (by_order o ((g, f) ∷ e ∷ es) ((e.0, f) ∷ es) (e ∷ put group_cmp g f es)) ≡ total (e ∷ es) + cond (is_some (cond (is_eq o) (Some e.1) (find group_cmp g es))) 0 (5 + length g)
    go Less p rest sorted =
        let s : T (is_sorted group_cmp ((g, f) ∷ e ∷ es)) = subst (λ o. T (is_sorted group_cmp (by_order o ((g, f) ∷ e ∷ es) ((e.0, f) ∷ es) (e ∷ put group_cmp g f es)))) p sorted in
        let below = second_of (is_lt (group_cmp g e.0)) (below_all group_cmp g es) (first_of (below_all group_cmp g (e ∷ es)) (is_sorted group_cmp (e ∷ es)) s) in
        let none = ap (λ o. cond (is_some o) 0 (5 + length g)) (unfound group_cmp g es below) in
        let one = cons (g, f) (e ∷ es) in
        omega arith
    go Equal p rest sorted = let was = cons e es in let now = cons (e.0, f) es in omega arith
    go Greater p rest sorted = let was = cons e es in let now = cons e (put group_cmp g f es) in omega arith

-- the floor of a group that had none is counted, another takes the place of the old one
pub floors-put : (m : map.FinMap group_cmp ℕ) (g : List ℕ) (f : ℕ) → sum_by floor_len (floor_keys (map.insert m g f)) ≡ sum_by floor_len (floor_keys m) + cond (is_some (map.get m g)) 0 (5 + length g)
floors-put m g f =
    ap total (map.entries-insert groups_total m g f)
    ∙ (put-total g f (map.entries m) (map.entries_sorted m) ∙ ap (λ (o : _). total (map.entries m) + cond (is_some o) 0 (5 + length g)) (sym (map.get-entries m g)))
