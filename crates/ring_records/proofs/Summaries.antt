-- What the states and the floors of a summary say, and what two histories with one summary share.
use Rattle.std.proofs.Common.{ℕ, ◌≡◌, Bool, true, false, cond, ◌||◌, ◌&&◌, not, List, [], ◌∷◌, ◌++◌, map, length, drop, Option, Some, None, Ordering, Less, Equal, Greater, refl, sym, ap, ◌∙◌, append-nil}
use Rattle.std.specs.Cmp.{eq_by_cmp_equiv}
use Rattle.std.specs.FinMap as fin
use Rattle.std.specs.FinMap.{find}
use Rattle.std.specs.List.{cons_option, filter, filter_map, fold, list_any}
use Rattle.std.specs.Map.{lookup}
use Rattle.std.specs.Ordering.{eq_by_cmp, is_eq}
use Rattle.std.specs.Prelude.{unwrap_or}
use Rattle.std.specs.Str.{bytes_eq}
use Rattle.std.proofs.lemmas.Bool.{or_parts}
use Rattle.std.proofs.lemmas.List.Folds.{list_any-append}
use Rattle.std.proofs.lemmas.Map.Text.{is_eq-slice_cmp}
use Rattle.std.proofs.lemmas.Option.{same_Some}
use Rattle.ring_records.specs.declared.input.Input.{Input}
use Rattle.ring_records.specs.declared.input.Input.TheVariants.{Stand, Take, Acked, Retire}
use Rattle.ring_records.specs.declared.key.Key.{Key}
use Rattle.ring_records.specs.declared.key_state.KeyState.{KeyState}
use Rattle.ring_records.specs.declared.summary.Summary.{Summary}
use Rattle.ring_records.specs.Emission.{sent}
use Rattle.ring_records.specs.FloorOf.{floor_of}
use Rattle.ring_records.specs.History.{floor_for, floor, is_retired, names, is_named, touched, first_stand, stood, taken, credit, stands}
use Rattle.ring_records.specs.KeyOrder.{group_cmp}
use Rattle.ring_records.specs.KeyStates.{under_key}
use Rattle.ring_records.specs.Leader.{first_leader, leader}
use Rattle.ring_records.specs.Message.{key_of}
use Rattle.ring_records.specs.Order.{is_key}
use Rattle.ring_records.specs.Summary.{named, retired_group, listed, state_of, key_states, floors_in, summary}
use Rattle.ring_records.proofs.Compare.{keys_total, keys_exact, is_eq-key_cmp, get-key}
use Rattle.ring_records.proofs.FloorsInOrder.{groups_total, groups_exact}
use Rattle.ring_records.proofs.History.{floor-push, floor-same, or-false, unnamed-stand, unnamed-leader}
use Rattle.ring_records.proofs.Keys.{is_key-true}
use Rattle.ring_records.proofs.Lists.{none≢some, filter_map-push}

-- ---- what the states say of a key

pub is_key-flip : (a b : Key) → is_key a b ≡ is_key b a
is_key-flip a b = sym (is_eq-key_cmp a b) ∙ ((eq_by_cmp_equiv keys_total).symm a b ∙ is_eq-key_cmp b a)

-- the states of a list of keys have that of each key of the list
lookup-states : (f : Key → KeyState) → ((k : Key) → (f k).key ≡ k) → (ks : List Key) (key : Key) → lookup (is_key key) (map under_key (map f ks)) ≡ cond (list_any (is_key key) ks) (Some (f key)) None
lookup-states f keeps [] key = refl
lookup-states f keeps (k ∷ ks) key =
    ap (λ (j : Key). cond (is_key key j) (Some (f k)) (lookup (is_key key) (map under_key (map f ks)))) (keeps k)
    ∙ (ap (cond (is_key key k) (Some (f k))) (lookup-states f keeps ks key) ∙ go (is_key key k) refl)
  where
    go : (b : Bool) → is_key key k ≡ b → cond b (Some (f k)) (cond (list_any (is_key key) ks) (Some (f key)) None) ≡ cond (b || list_any (is_key key) ks) (Some (f key)) None
    go true e = ap (λ (j : Key). Some (f j)) (sym (is_key-true key k e))
    go false e = refl

named-keys : (h : List Input) (key : Key) → list_any (is_key key) (filter_map named h) ≡ is_named h key
unfolding named is_named names
named-keys [] key = refl
named-keys (Stand k bid ∷ h) key = λ i. is_key-flip key k i || named-keys h key i
named-keys (Take msg_no msg ∷ h) key = λ i. is_key-flip key (key_of msg) i || named-keys h key i
named-keys (Acked upto ∷ h) key = named-keys h key
named-keys (Retire group new ∷ h) key = named-keys h key

-- the keys of a list that pass a test
any-filter : (p : Key → Bool) (ks : List Key) (key : Key) → list_any (is_key key) (filter p ks) ≡ (list_any (is_key key) ks && p key)
any-filter p [] key = refl
any-filter p (k ∷ ks) key = go (p k) (is_key key k) refl refl (any-filter p ks key)
  where
    neither : (b : Bool) → (b && false) ≡ false
    neither true = refl
    neither false = refl

    go : (b c : Bool) → p k ≡ b → is_key key k ≡ c → list_any (is_key key) (filter p ks) ≡ (list_any (is_key key) ks && p key)
        → list_any (is_key key) (cond b (k ∷ filter p ks) (filter p ks)) ≡ ((c || list_any (is_key key) ks) && p key)
    go true true e same ih = ap (λ c. c || list_any (is_key key) (filter p ks)) same ∙ sym (ap p (is_key-true key k same) ∙ e)
    go true false e same ih = ap (λ c. c || list_any (is_key key) (filter p ks)) same ∙ ih
    go false true e same ih = ih ∙ (ap (λ c. list_any (is_key key) ks && c) (ap p (is_key-true key k same) ∙ e) ∙ (neither (list_any (is_key key) ks) ∙ sym (ap p (is_key-true key k same) ∙ e)))
    go false false e same ih = ih

-- the states of the named keys that pass a test
pub get-kept : (p : Key → Bool) (f : Key → KeyState) → ((k : Key) → (f k).key ≡ k) → (h : List Input) (key : Key)
    → lookup (is_key key) (map under_key (map f (filter p (filter_map named h)))) ≡ cond (is_named h key && p key) (Some (f key)) None
get-kept p f keeps h key =
    lookup-states f keeps (filter p (filter_map named h)) key
    ∙ ap (λ b. cond b (Some (f key)) None) (any-filter p (filter_map named h) key ∙ ap (λ b. b && p key) (named-keys h key))

-- a state is there of the key
abbrev pub is_known : List Input → Key → Bool
is_known h key = is_named h key && not (is_retired h key)

pub get-states : (me : ℕ) (h : List Input) (key : Key) → fin.get (key_states me h) key ≡ cond (is_known h key) (Some (state_of me h key)) None
unfolding key_states
get-states me h key = get-key (map under_key (map (state_of me h) (listed h))) key ∙ get-kept (λ k. not (is_retired h k)) (state_of me h) (λ k. refl) h key

pub and-true : (b : Bool) → (b && true) ≡ b
and-true true = refl
and-true false = refl

-- a key that is not retired has a state where it is named
live-named : (h : List Input) (key : Key) → is_retired h key ≡ false → is_known h key ≡ is_named h key
live-named h key e = ap (λ b. is_named h key && not b) e ∙ and-true (is_named h key)

pub live-touched : (h : List Input) (key : Key) → is_retired h key ≡ false → is_known h key ≡ touched h key
unfolding touched
live-touched h key e = live-named h key e ∙ sym (ap (λ b. b || is_named h key) e)

-- where there is no state, there is no bid and no leader
pub unknown-stood : (h : List Input) (key : Key) → is_known h key ≡ false → stood h key ≡ None
unfolding stood
unknown-stood h key e = go (is_retired h key) refl
  where
    go : (b : Bool) → is_retired h key ≡ b → cond b None (first_stand h key) ≡ None
    go true r = refl
    go false r = unnamed-stand h key (sym (live-named h key r) ∙ e)

pub unknown-leader : (me : ℕ) (h : List Input) (key : Key) → is_known h key ≡ false → leader me h key ≡ None
unfolding leader
unknown-leader me h key e = go (is_retired h key) refl
  where
    go : (b : Bool) → is_retired h key ≡ b → cond b None (first_leader me h key) ≡ None
    go true r = refl
    go false r = unnamed-leader me h key (sym (live-named h key r) ∙ e)

-- ---- what the floors say of a group

-- some Retire is for the group
abbrev pub has_floor : List Input → List ℕ → Bool
has_floor h group = list_any (λ g. is_eq (group_cmp group g)) (filter_map retired_group h)

find-floor : (f : List ℕ → ℕ) (gs : List (List ℕ)) (group : List ℕ) → find group_cmp group (map (λ g. (g, f g)) gs) ≡ cond (list_any (λ g. is_eq (group_cmp group g)) gs) (Some (f group)) None
find-floor f [] group = refl
find-floor f (g ∷ gs) group = ap (cond (is_eq (group_cmp group g)) (Some (f g))) (find-floor f gs group) ∙ go (group_cmp group g) refl
  where
    go : (o : Ordering) → group_cmp group g ≡ o
        → cond (is_eq o) (Some (f g)) (cond (list_any (λ k. is_eq (group_cmp group k)) gs) (Some (f group)) None) ≡ cond (is_eq o || list_any (λ k. is_eq (group_cmp group k)) gs) (Some (f group)) None
    go Less e = refl
    go Equal e = ap (λ (k : List ℕ). Some (f k)) (sym (groups_exact group g e))
    go Greater e = refl

pub get-floors : (h : List Input) (group : List ℕ) → fin.get (floors_in h) group ≡ cond (has_floor h group) (Some (floor h group)) None
unfolding floors_in
get-floors h group = fin.get-from_entries groups_total (map (λ g. (g, floor h g)) (filter_map retired_group h)) group ∙ find-floor (floor h) (filter_map retired_group h) group

-- the code's order finds the same groups as the definitions do
pub same-group : (a b : List ℕ) → bytes_eq a b ≡ is_eq (group_cmp b a)
same-group a b = sym (is_eq-slice_cmp a b) ∙ (eq_by_cmp_equiv groups_total).symm a b

no_floors : (h : List Input) (group : List ℕ) → has_floor h group ≡ false → filter_map (floor_for group) h ≡ []
unfolding retired_group floor_for
no_floors [] group e = refl
no_floors (Stand key bid ∷ h) group e = no_floors h group e
no_floors (Take msg_no msg ∷ h) group e = no_floors h group e
no_floors (Acked upto ∷ h) group e = no_floors h group e
no_floors (Retire g new ∷ h) group e =
    let parts = or_parts (is_eq (group_cmp group g)) (has_floor h group) e in
    ap (λ b. cons_option (cond b (Some new) None) (filter_map (floor_for group) h)) (same-group g group ∙ parts.0) ∙ no_floors h group parts.1

pub floor-known : (h : List Input) (group : List ℕ) → floor_of (floors_in h) group ≡ floor h group
unfolding floor
floor-known h group = ap (λ (o : Option ℕ). unwrap_or o 0) (get-floors h group) ∙ go (has_floor h group) refl
  where
    go : (b : Bool) → has_floor h group ≡ b → unwrap_or (cond b (Some (floor h group)) None) 0 ≡ floor h group
    go true e = refl
    go false e = sym (ap (fold (λ before last. last) 0) (no_floors h group e))

-- an input that gives no floor leaves them
pub floors-same : (h : List Input) (x : Input) → retired_group x ≡ None → ((group : List ℕ) → floor_for group x ≡ None) → floors_in (h ++ x ∷ []) ≡ floors_in h
unfolding floors_in
floors-same h x no_group none =
    let groups : filter_map retired_group (h ++ x ∷ []) ≡ filter_map retired_group h = filter_map-push retired_group h x ∙ (ap (λ o. filter_map retired_group h ++ cons_option o []) no_group ∙ append-nil (filter_map retired_group h)) in
    λ i. fin.from_entries (map (λ g. (g, floor-same h x g (none g) i)) (groups i))

-- a Retire puts its own
pub floors-put : (h : List Input) (group : List ℕ) (new : ℕ) → floors_in (h ++ Retire group new ∷ []) ≡ fin.insert (floors_in h) group new
unfolding retired_group floor_for
floors-put h group new = fin.same_map groups_total groups_exact _ _ (λ q.
    get-floors (h ++ Retire group new ∷ []) q
    ∙ ((λ i. cond (more q i) (Some (floor-push h (Retire group new) q i)) None)
    ∙ (at q (is_eq (group_cmp q group)) refl
    ∙ sym (fin.get-insert groups_total (floors_in h) group new q ∙ ap (cond (eq_by_cmp group_cmp q group) (Some new)) (get-floors h q)))))
  where
    more : (q : List ℕ) → has_floor (h ++ Retire group new ∷ []) q ≡ (has_floor h q || is_eq (group_cmp q group))
    more q =
        ap (list_any (λ g. is_eq (group_cmp q g))) (filter_map-push retired_group h (Retire group new))
        ∙ (list_any-append (λ g. is_eq (group_cmp q g)) (filter_map retired_group h) (group ∷ [])
        ∙ ap (λ b. has_floor h q || b) (or-false (is_eq (group_cmp q group))))

    or_true : (b : Bool) → (b || true) ≡ true
    or_true true = refl
    or_true false = refl

    at : (q : List ℕ) (b : Bool) → is_eq (group_cmp q group) ≡ b
        → cond (has_floor h q || is_eq (group_cmp q group)) (Some (unwrap_or (cond (bytes_eq group q) (Some new) None) (floor h q))) None
        ≡ cond (is_eq (group_cmp q group)) (Some new) (cond (has_floor h q) (Some (floor h q)) None)
    at q true e =
        (λ i. cond ((ap (λ c. has_floor h q || c) e ∙ or_true (has_floor h q)) i) (Some (unwrap_or (cond ((same-group group q ∙ e) i) (Some new) None) (floor h q))) None)
        ∙ sym (ap (λ c. cond c (Some new) (cond (has_floor h q) (Some (floor h q)) None)) e)
    at q false e =
        (λ i. cond ((ap (λ c. has_floor h q || c) e ∙ or-false (has_floor h q)) i) (Some (unwrap_or (cond ((same-group group q ∙ e) i) (Some new) None) (floor h q))) None)
        ∙ sym (ap (λ c. cond c (Some new) (cond (has_floor h q) (Some (floor h q)) None)) e)

-- ---- two histories of which the same is known

pub record AreAlike (me : ℕ) (g h : List Input) : Type 0 where
  pub inputs_same : length g ≡ length h
  pub taken_same : length (taken g) ≡ length (taken h)
  pub credit_same : credit g ≡ credit h
  pub sent_same : length (sent me g) ≡ length (sent me h)
  pub stands_same : stands g ≡ stands h
  pub known_same : (key : Key) → is_known g key ≡ is_known h key
  pub stood_same : (key : Key) → stood g key ≡ stood h key
  pub leader_same : (key : Key) → leader me g key ≡ leader me h key
  pub window_same : drop (credit g) (sent me g) ≡ drop (credit h) (sent me h)
  pub floors_same : floors_in g ≡ floors_in h

both_states : (a b : Bool) (s t : KeyState) → cond a (Some s) None ≡ cond b (Some t) None → (a ≡ b) × (a ≡ true → s ≡ t)
both_states true true s t e = (refl, λ _. same_Some s t e)
both_states true false s t e = none≢some s (sym e)
both_states false true s t e = none≢some t e
both_states false false s t e = (refl, λ f. absurd cc)

-- of a state that is known only where there is one
one_part : {A : Type 0} (part : KeyState → A) (a b : Bool) (s t : KeyState) (none : A) → (a ≡ b) × (a ≡ true → s ≡ t) → (a ≡ false → part s ≡ none) → (b ≡ false → part t ≡ none) → part s ≡ part t
one_part part true b s t none same p q = ap part (same.1 refl)
one_part part false b s t none same p q = p refl ∙ sym (q (sym same.0))

pub alike : (me : ℕ) (g h : List Input) → summary me g ≡ summary me h → AreAlike me g h
alike me g h e = record {
  inputs_same = λ i. (e i).inputs;
  taken_same = λ i. (e i).taken;
  credit_same = λ i. (e i).credit;
  sent_same = λ i. (e i).sent;
  stands_same = λ i. (e i).stands;
  known_same = λ key. (states key).0;
  stood_same = λ key. one_part (λ s. s.stood) (is_known g key) (is_known h key) (state_of me g key) (state_of me h key) None (states key) (unknown-stood g key) (unknown-stood h key);
  leader_same = λ key. one_part (λ s. s.leader) (is_known g key) (is_known h key) (state_of me g key) (state_of me h key) None (states key) (unknown-leader me g key) (unknown-leader me h key);
  window_same = λ i. (e i).window;
  floors_same = λ i. (e i).floors;
}
  where
    states : (key : Key) → (is_known g key ≡ is_known h key) × (is_known g key ≡ true → state_of me g key ≡ state_of me h key)
    states key = both_states (is_known g key) (is_known h key) (state_of me g key) (state_of me h key)
        (sym (get-states me g key) ∙ (ap (λ (s : Summary). fin.get s.keys key) e ∙ get-states me h key))

pub summed : (me : ℕ) (g h : List Input) → AreAlike me g h → summary me g ≡ summary me h
summed me g h a = λ i. record {
  inputs = a.inputs_same i;
  taken = a.taken_same i;
  credit = a.credit_same i;
  sent = a.sent_same i;
  stands = a.stands_same i;
  keys = states i;
  window = a.window_same i;
  floors = a.floors_same i;
}
  where
    states : key_states me g ≡ key_states me h
    states = fin.same_map keys_total keys_exact _ _ (λ key.
        get-states me g key
        ∙ ((λ i. cond (a.known_same key i) (Some (record { key = key; stood = a.stood_same key i; leader = a.leader_same key i })) None)
        ∙ sym (get-states me h key)))
