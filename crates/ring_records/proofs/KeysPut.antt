-- What is added up over the states of keys, once one key is put.
use Rattle.std.proofs.Common.{ℕ, ◌≡◌, ◌+◌, cond, List, [], ◌∷◌, map as list_map, Option, Some, None, Ordering, Less, Equal, Greater, refl, sym, ap, ◌∙◌, subst, arith}
use Rattle.std.specs.FinMap as fin
use Rattle.std.specs.FinMap.{find, put, is_sorted}
use Rattle.std.specs.FinMap.Entries.{below_all, by_order, is_sorted-put}
use Rattle.std.specs.List.{sum_by}
use Rattle.std.specs.Ordering.{is_eq, is_lt}
use Rattle.std.specs.Prelude.{T}
use Rattle.std.proofs.lemmas.List.Sums.{sum_by-cons}
use Rattle.ring_records.specs.declared.key.Key.{Key}
use Rattle.ring_records.specs.declared.key_state.KeyState.{KeyState}
use Rattle.ring_records.specs.KeyOrder.{key_cmp}
use Rattle.ring_records.proofs.Compare.{keys_total}
use Rattle.ring_records.proofs.Entries.{first_of, second_of, unfound}

regroup : (a b c d : ℕ) → a + b ≡ c + d → (e : ℕ) → (e + a) + b ≡ (e + c) + d
regroup a b c d h e = omega arith

swapped : (a b c : ℕ) → (a + b) + c ≡ (c + b) + a
swapped a b c = omega arith

more : (a b : ℕ) → (a + b) + 0 ≡ b + a
more a b = omega arith

-- what f says of a state that may be there
abbrev pub part_of : (KeyState → ℕ) → Option KeyState → ℕ
part_of f None = 0
part_of f (Some s) = f s

module _ (f : KeyState → ℕ) where
  abbrev total : List (Key × KeyState) → ℕ
  total es = sum_by f (list_map (λ e. e.1) es)

  total-cons : (e : Key × KeyState) (es : List (Key × KeyState)) → total (e ∷ es) ≡ f e.1 + total es
  total-cons e es = sum_by-cons f e.1 (list_map (λ e. e.1) es)

  abbrev IsPut : Key → KeyState → List (Key × KeyState) → Type 0
  IsPut k v es = total (put key_cmp k v es) + part_of f (find key_cmp k es) ≡ total es + f v

  put-total : (k : Key) (v : KeyState) (es : List (Key × KeyState)) → T (is_sorted key_cmp es) → IsPut k v es
  put-total k v [] h = ap (λ n. n + 0) (total-cons (k, v) []) ∙ more (f v) 0
  put-total k v (e ∷ es) h = go (key_cmp k e.0) refl (put-total k v es (second_of (below_all key_cmp e.0 es) (is_sorted key_cmp es) h)) (is_sorted-put key_cmp keys_total k v (e ∷ es) h)
    where
      go : (o : Ordering) → key_cmp k e.0 ≡ o → IsPut k v es
          → T (is_sorted key_cmp (by_order (key_cmp k e.0) ((k, v) ∷ e ∷ es) ((e.0, v) ∷ es) (e ∷ put key_cmp k v es)))
          → total (by_order o ((k, v) ∷ e ∷ es) ((e.0, v) ∷ es) (e ∷ put key_cmp k v es)) + part_of f (cond (is_eq o) (Some e.1) (find key_cmp k es)) ≡ total (e ∷ es) + f v
      go Less p rest sorted =
          let s : T (is_sorted key_cmp ((k, v) ∷ e ∷ es)) = subst (λ o. T (is_sorted key_cmp (by_order o ((k, v) ∷ e ∷ es) ((e.0, v) ∷ es) (e ∷ put key_cmp k v es)))) p sorted in
          let below = second_of (is_lt (key_cmp k e.0)) (below_all key_cmp k es) (first_of (below_all key_cmp k (e ∷ es)) (is_sorted key_cmp (e ∷ es)) s) in
          (λ i. total-cons (k, v) (e ∷ es) i + part_of f (unfound key_cmp k es below i)) ∙ more (f v) (total (e ∷ es))
      go Equal p rest sorted = (λ i. total-cons (e.0, v) es i + f e.1) ∙ (swapped (f v) (total es) (f e.1) ∙ ap (λ n. n + f v) (sym (total-cons e es)))
      go Greater p rest sorted = (λ i. total-cons e (put key_cmp k v es) i + part_of f (find key_cmp k es)) ∙ (regroup _ _ _ _ rest (f e.1) ∙ ap (λ n. n + f v) (sym (total-cons e es)))

  pub keys-put : (m : fin.FinMap key_cmp KeyState) (k : Key) (v : KeyState) → sum_by f (fin.values (fin.insert m k v)) + part_of f (fin.get m k) ≡ sum_by f (fin.values m) + f v
  keys-put m k v =
      (λ i. total (fin.entries-insert keys_total m k v i) + part_of f (fin.get-entries m k i))
      ∙ put-total k v (fin.entries m) (fin.entries_sorted m)
