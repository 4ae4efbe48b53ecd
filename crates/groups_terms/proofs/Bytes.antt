-- The bytes that the states of a group's keys below a floor take in a snapshot are those of the entries in a range.
use Rattle.std.proofs.Common.{ℕ, ◌≡◌, ◌≤◌, ltb, not, ◌&&◌, Bool, true, false, cond, ◌+◌, List, [], ◌∷◌, map as list_map, filter, Option, Some, None, refl, sym, ap, ◌∙◌, subst, Ordering, Less, Equal, Greater}
use Rattle.std.specs.BTreeMap.{BTreeMap, IsOrdered}
use Rattle.std.specs.BTreeMap.Range.{range_contains}
use Rattle.std.specs.FinMap as map
use Rattle.std.specs.FinMap.Entries.{where_key, find-where_key}
use Rattle.std.specs.List.{sum_by}
use Rattle.std.specs.List.Sorted.{IsStrictlySortedBy}
use Rattle.std.specs.Option.{IsSome, option_map}
use Rattle.std.specs.Ordering.{is_gt, is_le, ordering_reverse}
use Rattle.std.specs.Str.{bytes_eq}
use Rattle.std.specs.declared.ops.Bound.TheVariants.{Included, Excluded}
use Rattle.std.proofs.lemmas.Bool.{ltb-true}
use Rattle.std.proofs.lemmas.Cmp.{ranked}
use Rattle.std.proofs.lemmas.List.Kept.{IsStrictlySortedBy-filter}
use Rattle.std.proofs.lemmas.List.Sums.{sum_by-cons}
use Rattle.std.proofs.lemmas.Slice.Eq.{bytes_eq-Decides}
use Rattle.ring_records.specs.declared.key.Key.{Key}
use Rattle.ring_records.specs.declared.key_state.KeyState.{KeyState}
use Rattle.ring_records.specs.Admission.{state_len}
use Rattle.ring_records.specs.KeyOrder.{key_cmp}
use Rattle.ring_records.specs.KeyStates.{under_key, keyed}
use Rattle.ring_records.specs.StateOrder.{by_state}
use Rattle.ring_records.specs.Known.{drops}
use Rattle.ring_records.proofs.Compare.{keys_total, keys_exact}
use Rattle.ring_records.proofs.KeyRange.{key_at, terms_in_order, within_group, same_group}
use Rattle.ring_records.proofs.StatesInOrder.{values-keyed}
use Rattle.cr_automaton.specs.declared.ballot.Ballot.{Ballot}
use Rattle.groups_terms.specs.Dropped.{kept_in, HaveTerms, states_by, bytes_among}
use Rattle.groups_terms.specs.Table.{state_at}
use Rattle.groups_terms.proofs.Dropping.{dropped_key, get-states_by, nat_less, retained_states}
use Rattle.groups_terms.proofs.States.{find-states, sorted_states}

-- ---- the keys of the range are those below the floor

not_gt : (o : Ordering) → is_le o ≡ true → is_gt o ≡ false
not_gt Less e = refl
not_gt Equal e = refl
not_gt Greater e = absurd (cc e)

not_le : (o : Ordering) → is_le (ordering_reverse o) ≡ false → o ≡ Less
not_le Less e = refl
not_le Equal e = absurd (cc e)
not_le Greater e = absurd (cc e)

le_of : (o : Ordering) → is_gt o ≡ false → is_le o ≡ true
le_of Less e = refl
le_of Equal e = refl
le_of Greater e = absurd (cc e)

both_true : (a b : Bool) → (a && not b) ≡ true → (a ≡ true) × (b ≡ false)
both_true true true e = absurd (cc e)
both_true true false e = (refl, refl)
both_true false b e = absurd (cc e)

both_of : (a b : Bool) → (a && b) ≡ true → (a ≡ true) × (b ≡ true)
both_of true true e = (refl, refl)
both_of true false e = absurd (cc e)
both_of false b e = absurd (cc e)

module _ (group : List ℕ) (floor : ℕ) where
  abbrev in_range : Key → Bool
  in_range q = range_contains key_cmp (Included (key_at group 1)) (Excluded (key_at group floor)) q

  -- a key of the range is of the group, and below the floor
  in_drops : (q : Key) → in_range q ≡ true → drops group floor q ≡ true
  in_drops q e =
      let parts = both_true (is_le (key_cmp (key_at group 1) q)) (is_le (key_cmp (key_at group floor) q)) e in
      let less : key_cmp q (key_at group floor) ≡ Less = not_le (key_cmp q (key_at group floor)) (ap is_le (sym (keys_total.antisymm (key_at group floor) q)) ∙ parts.1) in
      let same : group ≡ q.group = same_group group 1 floor q (not_gt (key_cmp (key_at group 1) q) parts.0) (ap is_gt less) in
      let under : key_cmp (key_at group q.term) (key_at group floor) ≡ Less = ap (λ g. key_cmp (key_at g q.term) (key_at group floor)) same ∙ less in
      dropped_key q group floor (sym same) (ranked q.term floor Less (sym under ∙ within_group group q.term floor))

  drops_in : (q : Key) → 1 ≤ q.term → drops group floor q ≡ true → in_range q ≡ true
  drops_in q some e =
      let parts = both_of (bytes_eq q.group group) (ltb q.term floor) e in
      let same : q.group ≡ group = (bytes_eq-Decides q.group group).0 parts.0 in
      let from = le_of (key_cmp (key_at group 1) (key_at group q.term)) (terms_in_order group 1 q.term some) in
      let less : key_cmp (key_at group q.term) (key_at group floor) ≡ Less = within_group group q.term floor ∙ nat_less q.term floor (ltb-true q.term floor parts.1) in
      let past : is_le (key_cmp (key_at group floor) (key_at group q.term)) ≡ false = ap is_le (keys_total.antisymm (key_at group floor) (key_at group q.term) ∙ ap ordering_reverse less) in
      ap (λ g. in_range (key_at g q.term)) same ∙ (λ i. from i && not (past i))

  ranged : (q : Key) → 1 ≤ q.term → in_range q ≡ drops group floor q
  ranged q some = go (in_range q) (drops group floor q) refl refl
    where
      go : (a b : Bool) → in_range q ≡ a → drops group floor q ≡ b → a ≡ b
      go true b e f = sym (in_drops q e) ∙ f
      go false true e f = sym e ∙ drops_in q some f
      go false false e f = refl

-- ---- their states

kept-states : (p : Key → Bool) (es : List (Key × Ballot)) → list_map state_at (where_key key_cmp p es) ≡ filter (λ (s : KeyState). p s.key) (list_map state_at es)
kept-states p [] = refl
kept-states p (e ∷ es) = go (p e.0) (kept-states p es)
  where
    go : (b : Bool) → list_map state_at (where_key key_cmp p es) ≡ filter (λ (s : KeyState). p s.key) (list_map state_at es)
        → list_map state_at (cond b (e ∷ where_key key_cmp p es) (where_key key_cmp p es)) ≡ cond b (state_at e ∷ filter (λ (s : KeyState). p s.key) (list_map state_at es)) (filter (λ (s : KeyState). p s.key) (list_map state_at es))
    go true rest = ap (λ l. state_at e ∷ l) rest
    go false rest = rest

module _ (m : BTreeMap Key Ballot) (group : List ℕ) (floor : ℕ) (ordered : IsOrdered key_cmp m) (have : HaveTerms (kept_in m)) where
  abbrev part : List (Key × Ballot)
  part = where_key key_cmp (in_range group floor) m.entries

  part-sorted : IsStrictlySortedBy by_state (list_map state_at part)
  part-sorted = subst (IsStrictlySortedBy by_state) (sym (kept-states (in_range group floor) m.entries)) (IsStrictlySortedBy-filter by_state (λ (s : KeyState). in_range group floor s.key) (list_map state_at m.entries) (sorted_states m.entries ordered))

  states-part : map.retain_keys (states_by (kept_in m)) (drops group floor) ≡ keyed (list_map state_at part)
  states-part = map.same_map keys_total keys_exact _ _ (λ q.
      retained_states (states_by (kept_in m)) (drops group floor) q
      ∙ (ap (λ o. cond (drops group floor q) o None) (get-states_by (kept_in m) q)
      ∙ (at q (map.get (kept_in m) q) refl
      ∙ sym (map.get-from_entries keys_total (list_map under_key (list_map state_at part)) q
      ∙ (find-states part q
      ∙ ap (option_map (λ b. state_at (q, b))) (find-where_key key_cmp (in_range group floor) q (λ x e. ap (in_range group floor) (sym (keys_exact q x e))) m.entries
      ∙ ap (λ o. cond (in_range group floor q) o None) (sym (map.get-from_entries keys_total m.entries q))))))))
    where
      at : (q : Key) (o : Option Ballot) → map.get (kept_in m) q ≡ o
          → cond (drops group floor q) (option_map (λ b. state_at (q, b)) (map.get (kept_in m) q)) None ≡ option_map (λ b. state_at (q, b)) (cond (in_range group floor q) (map.get (kept_in m) q) None)
      at q None e = ap (λ o. cond (drops group floor q) (option_map (λ b. state_at (q, b)) o) None) e ∙ (none (drops group floor q) (in_range group floor q) ∙ sym (ap (λ o. option_map (λ b. state_at (q, b)) (cond (in_range group floor q) o None)) e))
        where
          none : (a b : Bool) → ◌≡◌ {A = Option KeyState} (cond a None None) (option_map (λ b. state_at (q, b)) (cond b None None))
          none true true = refl
          none true false = refl
          none false true = refl
          none false false = refl
      at q (Some b) e =
          ap (λ c. cond c (option_map (λ b. state_at (q, b)) (map.get (kept_in m) q)) None) (sym (ranged group floor q (have q (subst IsSome (sym e) refl)).0))
          ∙ inner (in_range group floor q)
        where
          inner : (c : Bool) → cond c (option_map (λ b. state_at (q, b)) (map.get (kept_in m) q)) None ≡ option_map (λ b. state_at (q, b)) (cond c (map.get (kept_in m) q) None)
          inner true = refl
          inner false = refl

  pub bytes-part : bytes_among (kept_in m) (drops group floor) ≡ sum_by state_len (list_map state_at part)
  bytes-part = ap (λ s. sum_by state_len (map.values s)) states-part ∙ ap (sum_by state_len) (values-keyed (list_map state_at part) part-sorted)

-- one entry more of the range
pub one_entry : (e : Key × Ballot) (es rest : List (Key × Ballot)) → es ≡ e ∷ rest → sum_by state_len (list_map state_at es) ≡ state_len (state_at e) + sum_by state_len (list_map state_at rest)
one_entry e es rest is = ap (λ l. sum_by state_len (list_map state_at l)) is ∙ sum_by-cons state_len (state_at e) (list_map state_at rest)
