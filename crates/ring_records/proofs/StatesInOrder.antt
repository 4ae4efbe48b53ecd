-- The states that a map has are those of the list that makes it, where that is in order.
use Rattle.std.proofs.Common.{cond, Some, ℕ, ◌+◌, ◌-◌, ◌<◌, ◌≤◌, arith, get_or, suc, length, ◌≡◌, Bool, true, false, List, [], ◌∷◌, map as list_map, Less, refl, sym, ap, subst, ◌∙◌}
use Rattle.std.specs.FinMap as map
use Rattle.std.specs.FinMap.{is_sorted}
use Rattle.std.specs.List.{AllByRecursion}
use Rattle.std.specs.List.Sorted.{IsStrictlySortedBy}
use Rattle.std.specs.Ordering.{is_lt}
use Rattle.std.specs.Cmp.{IsTotalOrder}
use Rattle.std.specs.Prelude.{T}
use Rattle.std.proofs.lemmas.Cmp.{on_total}
use Rattle.std.proofs.lemmas.List.{get_or_read}
use Rattle.std.proofs.lemmas.Map.Keys.{sorted_from_all_adjacent, Less-from_sorted}
use Rattle.ring_records.specs.declared.key.Key.{Key}
use Rattle.ring_records.specs.declared.key_state.KeyState.{KeyState}
use Rattle.ring_records.specs.KeyOrder.{key_cmp}
use Rattle.ring_records.specs.KeyStates.{under_key, keyed}
use Rattle.ring_records.specs.StateOrder.{by_state}
use Rattle.std.specs.Map.{lookup}
use Rattle.std.proofs.lemmas.Option.{same_Some}
use Rattle.ring_records.specs.Order.{is_key}
use Rattle.ring_records.proofs.Compare.{keys_total, keys_exact}
use Rattle.ring_records.proofs.Keys.{is_key-true}
use Rattle.ring_records.proofs.Entries.{both, first_of, second_of, is_less, less_is}
use Rattle.ring_records.proofs.Lists.{none≢some}

below : (s : KeyState) (ss : List KeyState) → AllByRecursion (λ t. by_state s t ≡ Less) ss → T (map.Entries.below_all key_cmp s.key (list_map under_key ss))
below s [] a = tt
below s (t ∷ ss) a = both (is_lt (key_cmp s.key t.key)) _ (is_less (by_state s t) a.0) (below s ss a.1)

in_order : (ss : List KeyState) → IsStrictlySortedBy by_state ss → T (is_sorted key_cmp (list_map under_key ss))
unfolding IsStrictlySortedBy
in_order [] s = tt
in_order (t ∷ ss) s = both _ _ (below t ss s.0) (in_order ss s.1)

states-of : (ss : List KeyState) → list_map (λ e. e.1) (list_map under_key ss) ≡ ss
states-of [] = refl
states-of (s ∷ ss) = ap (λ l. s ∷ l) (states-of ss)

pub values-keyed : (ss : List KeyState) → IsStrictlySortedBy by_state ss → map.values (keyed ss) ≡ ss
values-keyed ss sorted =
    let es = list_map under_key ss in
    let same : keyed ss ≡ map.from_sorted (list_map under_key ss) = map.same_map keys_total keys_exact _ _ (λ q.
    map.get-from_entries keys_total (list_map under_key ss) q ∙ sym (map.get-from_sorted key_cmp (list_map under_key ss) q (in_order ss sorted))) in
    ap map.values same ∙ (ap (list_map (λ (e : Key × KeyState). e.1)) (map.entries-from_sorted key_cmp (list_map under_key ss) (in_order ss sorted)) ∙ states-of ss)

length-seconds : (es : List (Key × KeyState)) → length (list_map (λ e. e.1) es) ≡ length es
length-seconds [] = refl
length-seconds (e ∷ es) = ap suc (length-seconds es)

pub len-values : (m : map.FinMap key_cmp KeyState) → length (map.values m) ≡ map.len m
len-values m = length-seconds (map.entries m) ∙ sym (map.len-entries m)

-- ---- states next to each other

states_total : IsTotalOrder by_state
states_total = on_total (λ (s : KeyState). s.key) keys_total

-- the first i states rise
abbrev pub RiseTo : List KeyState → ℕ → Type 0
RiseTo states i = (k : ℕ) (d : KeyState) → k + 1 < i → k + 1 < length states → by_state (get_or states k d) (get_or states (k + 1) d) ≡ Less

pub rise-all : (states : List KeyState) (i : ℕ) → RiseTo states i → length states ≤ i → IsStrictlySortedBy by_state states
unfolding IsStrictlySortedBy
rise-all [] i so_far all = tt
rise-all (s ∷ ss) i so_far all = sorted_from_all_adjacent states_total (s ∷ ss) s (λ k inside. so_far k s (omega arith) inside)

pub rising-at : (states : List KeyState) (i : ℕ) (a b : KeyState) → 1 ≤ i → i < length states → a ≡ get_or states (i - 1) a → b ≡ get_or states i b → IsStrictlySortedBy by_state states
    → by_state a b ≡ Less
rising-at states i a b from inside at_a at_b sorted =
    (λ j. by_state (at_a j) (get_or_read states i b inside at_b a j)) ∙ Less-from_sorted by_state states (i - 1) i a sorted (omega arith) inside

-- ---- the states of a map, each under its own key

abbrev pub IsOwn : Key × KeyState → Type 0
IsOwn e = e.1.key ≡ e.0

below-own : (k : Key) (es : List (Key × KeyState)) → AllByRecursion IsOwn es → T (map.Entries.below_all key_cmp k es) → AllByRecursion (λ t. key_cmp k t.key ≡ Less) (list_map (λ e. e.1) es)
below-own k [] own h = tt
below-own k (e ∷ es) own h = (ap (key_cmp k) own.0 ∙ less_is (key_cmp k e.0) (first_of (is_lt (key_cmp k e.0)) _ h), below-own k es own.1 (second_of (is_lt (key_cmp k e.0)) _ h))

pub sorted-own : (es : List (Key × KeyState)) → AllByRecursion IsOwn es → T (is_sorted key_cmp es) → IsStrictlySortedBy by_state (list_map (λ e. e.1) es)
unfolding IsStrictlySortedBy
sorted-own [] own h = tt
sorted-own (e ∷ es) own h = (
  subst (λ (k : Key). AllByRecursion (λ t. key_cmp k t.key ≡ Less) (list_map (λ e. e.1) es)) (sym own.0) (below-own e.0 es own.1 (first_of (map.Entries.below_all key_cmp e.0 es) _ h)),
  sorted-own es own.1 (second_of (map.Entries.below_all key_cmp e.0 es) _ h),
)

pub entries-own : (es : List (Key × KeyState)) → AllByRecursion IsOwn es → list_map under_key (list_map (λ e. e.1) es) ≡ es
entries-own [] own = refl
entries-own (e ∷ es) own = λ i. (own.0 i, e.1) ∷ entries-own es own.1 i

-- what holds of each state of a list holds of what is found in the map of the list
pub each-found : (P : Key → KeyState → Type 0) (ss : List KeyState) → AllByRecursion (λ s. P s.key s) ss → (k : Key) (s : KeyState) → lookup (is_key k) (list_map under_key ss) ≡ Some s → P k s
each-found P [] each k s e = none≢some s e
each-found P (t ∷ ss) each k s e = go (each-found P ss each.1 k s) (is_key k t.key) refl e
  where
    go : (lookup (is_key k) (list_map under_key ss) ≡ Some s → P k s) → (b : Bool) → is_key k t.key ≡ b → cond b (Some t) (lookup (is_key k) (list_map under_key ss)) ≡ Some s → P k s
    go rest true same f = subst (λ (p : Key × KeyState). P p.0 p.1) (λ i. (sym (is_key-true k t.key same) i, same_Some t s f i)) each.0
    go rest false other f = rest f

pub each-value : (P : KeyState → Type 0) (es : List (Key × KeyState)) → AllByRecursion (λ e. P e.1) es → AllByRecursion P (list_map (λ e. e.1) es)
each-value P [] each = tt
each-value P (e ∷ es) each = (each.0, each-value P es each.1)
