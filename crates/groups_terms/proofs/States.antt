-- What a table tells of its keys, and a table that is told it.
use Rattle.std.proofs.Common.{ℕ, zero, suc, ◌≡◌, ◌+◌, ◌<◌, Bool, true, false, cond, List, [], ◌∷◌, ◌++◌, map as list_map}
use Rattle.std.proofs.Common.{length, drop, get_or, Option, Some, None, Ordering, Less, Equal, Greater, refl, sym, ap, ◌∙◌, subst, append-nil}
use Rattle.std.specs.FinMap as map
use Rattle.std.specs.FinMap.{find}
use Rattle.std.specs.List.{AllByRecursion}
use Rattle.std.specs.List.Sorted.{IsStrictlySortedBy}
use Rattle.std.specs.Option.{option_map}
use Rattle.std.specs.Ordering.{is_eq}
use Rattle.std.specs.Prelude.{is_some}
use Rattle.std.proofs.lemmas.List.{drop_more}
use Rattle.std.proofs.lemmas.Option.{same_Some}
use Rattle.std.proofs.lemmas.Map.Keys.{sorted_head}
use Rattle.ring_records.specs.declared.key.Key.{Key}
use Rattle.ring_records.specs.declared.key_state.KeyState.{KeyState}
use Rattle.ring_records.specs.KeyOrder.{key_cmp}
use Rattle.ring_records.specs.KeyStates.{under_key, keyed}
use Rattle.ring_records.specs.StateOrder.{by_state}
use Rattle.ring_records.specs.Known.{stood_of, leader_of}
use Rattle.ring_records.specs.Noted.{noted}
use Rattle.ring_records.specs.Order.{is_key}
use Rattle.ring_records.proofs.Compare.{keys_total, keys_exact, get-put}
use Rattle.ring_records.proofs.Keys.{is_key-true}
use Rattle.ring_records.proofs.Lists.{none≢some}
use Rattle.cr_automaton.specs.declared.ballot.Ballot.{Ballot}
use Rattle.groups_terms.specs.Latest.{Leaders, latest_of}
use Rattle.groups_terms.specs.Table.{TableView, known, ballot_at, AreLatest, state_at, states_in, ballot_of, entry_of, ballots_of}
use Rattle.groups_terms.proofs.Tables.{hear_kept}

-- ---- the states of a table

-- the states of entries in order are in order
below : (k : Key) (es : List (Key × Ballot)) → AllByRecursion (λ (j : Key). key_cmp k j ≡ Less) (list_map (λ e. e.0) es) → (b : Ballot)
    → AllByRecursion (λ s. by_state (state_at (k, b)) s ≡ Less) (list_map state_at es)
below k [] a b = tt
below k (e ∷ es) a b = (a.0, below k es a.1 b)

pub sorted_states : (es : List (Key × Ballot)) → IsStrictlySortedBy key_cmp (list_map (λ e. e.0) es) → IsStrictlySortedBy by_state (list_map state_at es)
unfolding IsStrictlySortedBy
sorted_states [] s = tt
sorted_states (e ∷ es) s = (below e.0 es s.0 e.1, sorted_states es s.1)

-- what the states have at a key
pub find-states : (es : List (Key × Ballot)) (key : Key) → find key_cmp key (list_map under_key (list_map state_at es)) ≡ option_map (λ b. state_at (key, b)) (find key_cmp key es)
find-states [] key = refl
find-states (e ∷ es) key =
    ap (cond (is_eq (key_cmp key e.0)) (Some (state_at e))) (find-states es key) ∙ go (key_cmp key e.0) refl
  where
    go : (o : Ordering) → key_cmp key e.0 ≡ o
        → cond (is_eq o) (Some (state_at e)) (option_map (λ b. state_at (key, b)) (find key_cmp key es)) ≡ option_map (λ b. state_at (key, b)) (cond (is_eq o) (Some e.1) (find key_cmp key es))
    go Less f = refl
    go Equal f = ap (λ (k : Key). Some (state_at (k, e.1))) (sym (keys_exact key e.0 f))
    go Greater f = refl

-- what a table says of a key
pub get-states_in : (t : TableView) (key : Key) → map.get (states_in t) key ≡ option_map (λ b. state_at (key, b)) (map.get t.ballots key)
get-states_in t key =
    map.get-from_entries keys_total (list_map under_key (list_map state_at (map.entries t.ballots))) key
    ∙ (find-states (map.entries t.ballots) key ∙ ap (option_map (λ b. state_at (key, b))) (sym (map.get-entries t.ballots key)))

-- one key gets another ballot
pub states-put : (t u : TableView) (key : Key) (b : Ballot) → u.ballots ≡ map.insert t.ballots key b → states_in u ≡ map.insert (states_in t) key (state_at (key, b))
states-put t u key b put = map.same_map keys_total keys_exact _ _ (λ other.
    get-states_in u other
    ∙ (ap (option_map (λ c. state_at (other, c))) (ap (λ m. map.get m other) put ∙ get-put t.ballots key b other)
    ∙ (at other (is_key key other) refl ∙ sym (get-put (states_in t) key (state_at (key, b)) other))))
  where
    at : (other : Key) (same : Bool) → is_key key other ≡ same
        → option_map (λ c. state_at (other, c)) (cond same (Some b) (map.get t.ballots other)) ≡ cond same (Some (state_at (key, b))) (map.get (states_in t) other)
    at other true e = ap (λ (k : Key). Some (state_at (k, b))) (sym (is_key-true key other e))
    at other false e = sym (get-states_in t other)

-- the bid, the leader and the touch of a key, told by the states
pub stood_in : (t : TableView) (key : Key) → stood_of (map.get (states_in t) key) ≡ (ballot_at t key).stood
stood_in t key = ap stood_of (get-states_in t key) ∙ at (map.get t.ballots key)
  where
    at : (o : Option Ballot) → stood_of (option_map (λ b. state_at (key, b)) o) ≡ (known o).stood
    at None = refl
    at (Some b) = refl

pub leader_in : (t : TableView) (key : Key) → leader_of (map.get (states_in t) key) ≡ (ballot_at t key).leader
leader_in t key = ap leader_of (get-states_in t key) ∙ at (map.get t.ballots key)
  where
    at : (o : Option Ballot) → leader_of (option_map (λ b. state_at (key, b)) o) ≡ (known o).leader
    at None = refl
    at (Some b) = refl

pub touched_in : (t : TableView) (key : Key) → is_some (map.get (states_in t) key) ≡ map.contains_key t.ballots key
touched_in t key = ap is_some (get-states_in t key) ∙ at (map.get t.ballots key)
  where
    at : (o : Option Ballot) → is_some (option_map (λ b. state_at (key, b)) o) ≡ is_some o
    at None = refl
    at (Some b) = refl

-- the states of the entries are those of the table
pub states-entries : (t : TableView) (es : List (Key × Ballot)) → map.from_entries es ≡ t.ballots → keyed (list_map state_at es) ≡ states_in t
states-entries t es are = map.same_map keys_total keys_exact _ _ (λ key.
    map.get-from_entries keys_total (list_map under_key (list_map state_at es)) key
    ∙ (find-states es key
    ∙ (ap (option_map (λ b. state_at (key, b))) (sym (map.get-from_entries keys_total es key) ∙ ap (λ m. map.get m key) are)
    ∙ sym (get-states_in t key))))

-- ---- a table that is told the states

pub state_kept : (t : TableView) (m m' : map.FinMap key_cmp Ballot) (old kept new : Leaders) (key : Key) (b : Ballot) → m ≡ t.ballots → AreLatest m old → map.get t.ballots key ≡ None
    → ((group : List ℕ) → latest_of kept group ≡ latest_of old group)
    → m' ≡ map.insert m key b → ((group : List ℕ) → latest_of new group ≡ noted None b.leader key group (latest_of kept group)) → AreLatest m' new
state_kept t m m' old placed new key b same are none room put note =
    hear_kept t m m' old placed new key (record { stood = None; leader = None }) b same are (sym (ap known none)) room put (λ c e. none≢some c e) note

-- a key that is less than all others is not among them
find-below : (s : KeyState) (rest : List KeyState) → AllByRecursion (λ t. by_state s t ≡ Less) rest → find key_cmp s.key (list_map entry_of rest) ≡ None
find-below s [] a = refl
find-below s (t ∷ rest) a = ap (λ o. cond (is_eq o) (Some (ballot_of t)) (find key_cmp s.key (list_map entry_of rest))) a.0 ∙ find-below s rest a.1

sorted-drop : (n : ℕ) (xs : List KeyState) → IsStrictlySortedBy by_state xs → IsStrictlySortedBy by_state (drop n xs)
unfolding IsStrictlySortedBy
sorted-drop zero xs s = s
sorted-drop (suc n) [] s = tt
sorted-drop (suc n) (x ∷ xs) s = sorted-drop n xs s.1

-- the states from number i on, of which the others are put
pub from_here : (items : List KeyState) (i j : ℕ) (s : KeyState) → i < length items → j ≡ i + 1 → s ≡ get_or items i s → drop i items ≡ s ∷ drop j items
from_here items i j s less next is = drop_more items i s less ∙ (λ k. sym is k ∷ drop (sym next k) items)

pub absent : (items : List KeyState) (i j : ℕ) (s : KeyState) (m : map.FinMap key_cmp Ballot) → IsStrictlySortedBy by_state items → i < length items → j ≡ i + 1 → s ≡ get_or items i s
    → m ≡ ballots_of (drop j items) → map.get m s.key ≡ None
absent items i j s m sorted less next is e =
    let here = subst (IsStrictlySortedBy by_state) (from_here items i j s less next is) (sorted-drop i items sorted) in
    ap (λ n. map.get n s.key) e ∙ (map.get-from_entries keys_total (list_map entry_of (drop j items)) s.key ∙ find-below s (drop j items) (sorted_head by_state s (drop j items) here))

pub one_more_put : (items : List KeyState) (i j : ℕ) (s : KeyState) (m n : map.FinMap key_cmp Ballot) → i < length items → j ≡ i + 1 → s ≡ get_or items i s
    → m ≡ ballots_of (drop j items) → n ≡ map.insert m s.key (ballot_of s) → n ≡ ballots_of (drop i items)
one_more_put items i j s m n less next is e put = put ∙ (ap (λ k. map.insert k s.key (ballot_of s)) e ∙ sym (ap ballots_of (from_here items i j s less next is)))

-- what the ballots have at a key, by the states
find-ballots : (items : List KeyState) (key : Key) → find key_cmp key (list_map entry_of items) ≡ option_map ballot_of (find key_cmp key (list_map under_key items))
find-ballots [] key = refl
find-ballots (s ∷ items) key = ap (cond (is_eq (key_cmp key s.key)) (Some (ballot_of s))) (find-ballots items key) ∙ go (is_eq (key_cmp key s.key))
  where
    go : (b : Bool) → cond b (Some (ballot_of s)) (option_map ballot_of (find key_cmp key (list_map under_key items)))
        ≡ option_map ballot_of (cond b (Some s) (find key_cmp key (list_map under_key items)))
    go true = refl
    go false = refl

-- the state that is found for a key is of the key
keys_kept : (items : List KeyState) (key : Key) (s : KeyState) → find key_cmp key (list_map under_key items) ≡ Some s → s.key ≡ key
keys_kept [] key s e = none≢some s e
keys_kept (t ∷ items) key s e = go (key_cmp key t.key) refl (keys_kept items key s) e
  where
    go : (o : Ordering) → key_cmp key t.key ≡ o → (find key_cmp key (list_map under_key items) ≡ Some s → s.key ≡ key)
        → cond (is_eq o) (Some t) (find key_cmp key (list_map under_key items)) ≡ Some s → s.key ≡ key
    go Less f rest g = rest g
    go Equal f rest g = ap (λ (u : KeyState). u.key) (sym (same_Some t s g)) ∙ sym (keys_exact key t.key f)
    go Greater f rest g = rest g

get-ballots : (items : List KeyState) (key : Key) → map.get (ballots_of items) key ≡ option_map ballot_of (map.get (keyed items) key)
get-ballots items key =
    map.get-from_entries keys_total (list_map entry_of items) key
    ∙ (find-ballots items key ∙ sym (ap (option_map ballot_of) (map.get-from_entries keys_total (list_map under_key items) key)))

pub states-put_back : (t : TableView) (items : List KeyState) → t.ballots ≡ ballots_of items → states_in t ≡ keyed items
states-put_back t items are = map.same_map keys_total keys_exact _ _ (λ key.
    get-states_in t key
    ∙ (ap (option_map (λ b. state_at (key, b))) (ap (λ m. map.get m key) are ∙ (get-ballots items key ∙ ap (option_map ballot_of) (found items key)))
    ∙ (at key (find key_cmp key (list_map under_key items)) (keys_kept items key) ∙ sym (found items key))))
  where
    found : (items : List KeyState) (key : Key) → map.get (keyed items) key ≡ find key_cmp key (list_map under_key items)
    found items key = map.get-from_entries keys_total (list_map under_key items) key

    at : (key : Key) (o : Option KeyState) → ((s : KeyState) → o ≡ Some s → s.key ≡ key) → option_map (λ b. state_at (key, b)) (option_map ballot_of o) ≡ o
    at key None kept = refl
    at key (Some s) kept = λ i. Some (record { key = sym (kept s refl) i; stood = s.stood; leader = s.leader })

-- a loop over the entries, at its end
pub all_told : (items : List KeyState) (left es : List (Key × Ballot)) → items ++ list_map state_at left ≡ list_map state_at es → left ≡ [] → items ≡ list_map state_at es
all_told items left es e none = sym (ap (λ l. items ++ list_map state_at l) none ∙ append-nil items) ∙ e
