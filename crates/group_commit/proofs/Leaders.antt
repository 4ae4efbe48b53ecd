-- The leaders that a summary names are those of its history.
use Rattle.std.proofs.Common.{◌≡◌, ℕ, Bool, true, false, cond, List, [], ◌∷◌, ◌++◌, map, Option, Some, None, Less, refl, sym, ap, ◌∙◌, subst, inl, inr}
use Rattle.std.specs.FinMap as fin
use Rattle.std.specs.FinMap.{find}
use Rattle.std.specs.List.{Contains, AllByRecursion, cons_option, filter_map}
use Rattle.std.specs.Option.{option_map}
use Rattle.std.specs.List.Sorted.{IsStrictlySortedBy}
use Rattle.std.specs.Ordering.{is_eq}
use Rattle.std.proofs.lemmas.Option.{same_Some}
use Rattle.ring_records.specs.declared.candidate.Candidate.{Candidate}
use Rattle.ring_records.specs.declared.decision.Decision.{Decision}
use Rattle.ring_records.specs.declared.input.Input.{Input}
use Rattle.ring_records.specs.declared.key.Key.{Key}
use Rattle.ring_records.specs.declared.key_state.KeyState.{KeyState}
use Rattle.ring_records.specs.declared.notice.Notice.{Notice}
use Rattle.ring_records.specs.declared.notice.Notice.TheVariants.{Decided, Retired}
use Rattle.ring_records.specs.declared.summary.Summary.{Summary}
use Rattle.ring_records.specs.Floors.{floor_keys}
use Rattle.ring_records.specs.KeyOrder.{key_cmp}
use Rattle.ring_records.specs.StateOrder.{by_state}
use Rattle.ring_records.specs.Leader.{leader}
use Rattle.ring_records.specs.Notices.{decided_all}
use Rattle.ring_records.specs.Release.{by_key, AreLeaders}
use Rattle.ring_records.specs.Summary.{state_of, key_states, summary, floors_in}
use Rattle.ring_records.proofs.Leader.{Contains-here, Contains-later, Contains-nil, Contains-cons_cases}
use Rattle.ring_records.proofs.Lists.{none≢some}
use Rattle.ring_records.proofs.Compare.{keys_total, keys_exact}
use Rattle.ring_records.proofs.Entries.{each-entry}
use Rattle.ring_records.proofs.StatesInOrder.{IsOwn, sorted-own}
use Rattle.ring_records.proofs.Summaries.{get-states, is_known, unknown-leader}
use Rattle.group_commit.specs.Content.{retired_all, content_of, IsContent}
use Rattle.group_commit.specs.Leads.{led, leaders_in}

-- ---- the states of a history

abbrev states : ℕ → List Input → List (Key × KeyState)
states me h = fin.entries (key_states me h)

found_as : (me : ℕ) (h : List Input) (k : Key) (s : KeyState) (b : Bool) → cond b (Some (state_of me h k)) None ≡ Some s → s ≡ state_of me h k
found_as me h k s true e = sym (same_Some (state_of me h k) s e)
found_as me h k s false e = none≢some s e

-- each is that of its key
each_state : (me : ℕ) (h : List Input) → AllByRecursion (λ (e : Key × KeyState). e.1 ≡ state_of me h e.0) (states me h)
each_state me h = each-entry key_cmp keys_total keys_exact (λ k s. s ≡ state_of me h k) (states me h) (fin.entries_sorted (key_states me h))
    (λ k s found. found_as me h k s (is_known h k) (sym (get-states me h k) ∙ (fin.get-entries (key_states me h) k ∙ found)))

owns : (me : ℕ) (h : List Input) (es : List (Key × KeyState)) → AllByRecursion (λ (e : Key × KeyState). e.1 ≡ state_of me h e.0) es → AllByRecursion IsOwn es
owns me h [] each = tt
owns me h (e ∷ es) each = (ap (λ (s : KeyState). s.key) each.0, owns me h es each.1)

-- ---- their leaders

led-of : (me : ℕ) (h : List Input) (k : Key) (c : Candidate) (s : KeyState) → s ≡ state_of me h k → leader me h k ≡ Some c → led s ≡ Some (record { key = k; leader = c })
led-of me h k c s is leads = ap led is ∙ ap (λ (o : Option Candidate). led (record { key = k; stood = (state_of me h k).stood; leader = o })) leads

-- what is listed leads
tells : (me : ℕ) (h : List Input) (es : List (Key × KeyState)) → AllByRecursion (λ (e : Key × KeyState). e.1 ≡ state_of me h e.0) es → (d : Decision)
    → Contains (filter_map led (map (λ e. e.1) es)) d → leader me h d.key ≡ Some d.leader
tells me h [] each d has = Contains-nil d has
tells me h (e ∷ es) each d has = go (tells me h es each.1 d) (leader me h e.0) refl
  where
    go : (Contains (filter_map led (map (λ (e : Key × KeyState). e.1) es)) d → leader me h d.key ≡ Some d.leader) → (o : Option Candidate) → leader me h e.0 ≡ o
        → leader me h d.key ≡ Some d.leader
    go rest None none = rest
        (subst (λ o. Contains (cons_option o (filter_map led (map (λ (e : Key × KeyState). e.1) es))) d) (ap led each.0 ∙ ap (λ (o : Option Candidate). led (record { key = e.0; stood = (state_of me h e.0).stood; leader = o })) none) has)
    go rest (Some c) some = elim (Contains-cons_cases (record { key = e.0; leader = c }) (filter_map led (map (λ (e : Key × KeyState). e.1) es)) d
        (subst (λ o. Contains (cons_option o (filter_map led (map (λ (e : Key × KeyState). e.1) es))) d) (led-of me h e.0 c e.1 each.0 some) has)) [
          | inl same ↦ subst (λ (x : Decision). leader me h x.key ≡ Some x.leader) same some
          | inr later ↦ rest later
        ]

kept : (o : Option Decision) (ds : List Decision) (d : Decision) → Contains ds d → Contains (cons_option o ds) d
kept None ds d has = has
kept (Some x) ds d has = Contains-later x ds d has

-- who leads is listed
listed : (me : ℕ) (h : List Input) (key : Key) (c : Candidate) (es : List (Key × KeyState)) → find key_cmp key es ≡ Some (state_of me h key) → leader me h key ≡ Some c
    → Contains (filter_map led (map (λ e. e.1) es)) (record { key = key; leader = c })
listed me h key c [] found leads = none≢some (state_of me h key) found
listed me h key c (e ∷ es) found leads = go (is_eq (key_cmp key e.0)) found (listed me h key c es)
  where
    go : (b : Bool) → cond b (Some e.1) (find key_cmp key es) ≡ Some (state_of me h key)
        → (find key_cmp key es ≡ Some (state_of me h key) → leader me h key ≡ Some c → Contains (filter_map led (map (λ (e : Key × KeyState). e.1) es)) (record { key = key; leader = c }))
        → Contains (cons_option (led e.1) (filter_map led (map (λ (e : Key × KeyState). e.1) es))) (record { key = key; leader = c })
    go true here rest =
        subst (λ o. Contains (cons_option o (filter_map led (map (λ (e : Key × KeyState). e.1) es))) (record { key = key; leader = c })) (sym (led-of me h key c e.1 (same_Some e.1 (state_of me h key) here) leads))
        (Contains-here (record { key = key; leader = c }) (filter_map led (map (λ (e : Key × KeyState). e.1) es)))
    go false later rest = kept (led e.1) _ _ (rest later leads)

-- ---- in order of key

above : (k : Key) (ss : List KeyState) → AllByRecursion (λ (t : KeyState). key_cmp k t.key ≡ Less) ss → AllByRecursion (λ (d : Decision). key_cmp k d.key ≡ Less) (filter_map led ss)
above k [] each = tt
above k (s ∷ ss) each = go s.leader (above k ss each.1)
  where
    go : (o : Option Candidate) → AllByRecursion (λ (d : Decision). key_cmp k d.key ≡ Less) (filter_map led ss)
        → AllByRecursion (λ (d : Decision). key_cmp k d.key ≡ Less) (cons_option (led (record s { leader = o })) (filter_map led ss))
    go None rest = rest
    go (Some c) rest = (each.0, rest)

rising : (ss : List KeyState) → IsStrictlySortedBy by_state ss → IsStrictlySortedBy by_key (filter_map led ss)
unfolding IsStrictlySortedBy
rising [] sorted = tt
rising (s ∷ ss) sorted = go s.leader (rising ss sorted.1)
  where
    go : (o : Option Candidate) → IsStrictlySortedBy by_key (filter_map led ss) → IsStrictlySortedBy by_key (cons_option (led (record s { leader = o })) (filter_map led ss))
    go None rest = rest
    go (Some c) rest = (above s.key ss sorted.0, rest)

-- the leaders in a history's summary are those that it knows
leaders-known : (me : ℕ) (h : List Input) → AreLeaders me h (leaders_in (summary me h))
leaders-known me h = record {
  sorted = rising (fin.values (key_states me h)) (sorted-own (states me h) (owns me h (states me h) (each_state me h)) (fin.entries_sorted (key_states me h)));
  each = λ d has. tells me h (states me h) (each_state me h) d has;
  all = λ key c leads. listed me h key c (states me h) (sym (fin.get-entries (key_states me h) key) ∙ (get-states me h key ∙ was key c leads (is_known h key) refl)) leads;
}
  where
    was : (key : Key) (c : Candidate) → leader me h key ≡ Some c → (b : Bool) → is_known h key ≡ b → cond b (Some (state_of me h key)) None ≡ Some (state_of me h key)
    was key c leads true touch = refl
    was key c leads false touch = none≢some c (sym (unknown-leader me h key touch) ∙ leads)

-- what a summary knows is what its history knows
pub content-known : (me : ℕ) (s : Summary) (h : List Input) (list : List Notice) → s ≡ summary me h → list ≡ content_of (leaders_in s) (floor_keys s.floors) → IsContent me h list
content-known me s h list knows is = record {
  leaders = leaders_in (summary me h);
  floors = floor_keys (floors_in h);
  is = is ∙ ap (λ (t : Summary). content_of (leaders_in t) (floor_keys t.floors)) knows;
  lead = leaders-known me h;
  stand = refl;
}

-- ---- their notices

all-append : (ds more : List Decision) → decided_all (ds ++ more) ≡ decided_all ds ++ decided_all more
all-append [] more = refl
all-append (d ∷ ds) more = ap (λ ns. Decided d ∷ ns) (all-append ds more)

pub all-push : (ds : List Decision) (o : Option Decision) → decided_all (ds ++ cons_option o []) ≡ decided_all ds ++ cons_option (option_map Decided o) []
all-push ds None = all-append ds []
all-push ds (Some d) = all-append ds (d ∷ [])

pub retired-push : (floors : List Key) (floor : Key) → retired_all (floors ++ floor ∷ []) ≡ retired_all floors ++ retired_all (floor ∷ [])
retired-push [] floor = refl
retired-push (f ∷ floors) floor = ap (λ ns. Retired f.group f.term ∷ ns) (retired-push floors floor)
