-- What is known behind a Retire, and that the Stands which count are the keys that stood: of every history, by the inputs alone.
use Rattle.std.proofs.Common.{ℕ, suc, ◌≡◌, ◌+◌, ◌-◌, ◌<◌, ◌≤◌, Bool, true, false, cond, not, ◌||◌, ◌&&◌, List, [], ◌∷◌, ◌++◌, map as list_map, length, drop, filter, Option, Some, None, IsSome, is_some, refl, sym, ap, ◌∙◌, subst, append-nil, arith}
use Rattle.std.specs.FinMap as map
use Rattle.std.specs.List.{count_by, cons_option, filter_map, AllByRecursion}
use Rattle.std.proofs.lemmas.List.{length-append}
use Rattle.std.proofs.lemmas.List.Elements.{filter-append}
use Rattle.std.proofs.lemmas.List.Sums.{sum_by-cons}
use Rattle.std.proofs.lemmas.Option.{same_Some}
use Rattle.ring_records.specs.declared.input.Input.{Input}
use Rattle.ring_records.specs.declared.input.Input.TheVariants.{Stand, Take, Acked, Retire}
use Rattle.ring_records.specs.declared.key.Key.{Key}
use Rattle.ring_records.specs.declared.key_state.KeyState.{KeyState}
use Rattle.ring_records.specs.declared.msg.Msg.{Msg}
use Rattle.ring_records.specs.declared.summary.Summary.{Summary}
use Rattle.ring_records.specs.Admission.{is_retire}
use Rattle.ring_records.specs.Allowed.{IsInTurn, IsAllowed}
use Rattle.ring_records.specs.Emission.{emit, sent}
use Rattle.ring_records.specs.History.{floor, is_retired, bid_for, first_stand, stood, is_live_stand, stands, message_of, taken, upto_of, credit}
use Rattle.ring_records.specs.KeyOrder.{key_cmp}
use Rattle.ring_records.specs.FloorOf.{is_below_floor}
use Rattle.ring_records.specs.Known.{Objects, drops, heard, known_of, leader_of, stepped, stood_of}
use Rattle.ring_records.specs.Lists.{first, or_else}
use Rattle.ring_records.specs.Message.{key_of}
use Rattle.ring_records.specs.Order.{is_key}
use Rattle.ring_records.specs.Snapshot.{has_stood}
use Rattle.ring_records.specs.Summary.{key_states, state_of, summary}
use Rattle.ring_records.proofs.Compare.{get-put, keys_total, keys_exact}
use Rattle.ring_records.proofs.CountedStands.{stand_with, stands_with}
use Rattle.ring_records.proofs.Entries.{each-entry}
use Rattle.ring_records.proofs.History.{taken-push, sent-push, credit-push, first_stand-push, if_live-some}
use Rattle.ring_records.proofs.Keys.{is_key-true}
use Rattle.ring_records.proofs.KeysPut.{part_of, keys-put}
use Rattle.ring_records.proofs.Known.{plain-known}
use Rattle.ring_records.proofs.Lists.{none≢some}
use Rattle.ring_records.proofs.RetireStep.{alike, kept-and-dropped, retired-behind, states-behind}
use Rattle.ring_records.proofs.Summaries.{is_known, floors-put, get-states}
use Rattle.node_core.proofs.Measures.{unnamed}

abbrev KeyMap : Type 0
KeyMap = map.FinMap key_cmp KeyState

abbrev once : KeyState → ℕ
once s = cond (has_stood s) 1 0

abbrev pub stood_count : KeyMap → ℕ
stood_count m = count_by has_stood (map.values m)

-- ---- at most as many keys stood as there are Stands for them

-- each key that stood passes the test, and has a Stand
abbrev AreStood : (Key → Bool) → KeyMap → List Input → Type 0
AreStood p m h = (key : Key) (s : KeyState) → map.get m key ≡ Some s → has_stood s ≡ true → (p key ≡ true) × IsSome (first_stand h key)

once_at_most : (o : Option KeyState) → part_of once o ≤ 1
once_at_most None = omega arith
once_at_most (Some s) = at (has_stood s)
  where
    at : (b : Bool) → cond b 1 0 ≤ 1
    at true = omega arith
    at false = omega arith

none_stood : (es : List (Key × KeyState)) → AllByRecursion (λ e. has_stood e.1 ≡ false) es → count_by has_stood (list_map (λ e. e.1) es) ≡ 0
none_stood [] each = refl
none_stood (e ∷ es) each = sum_by-cons once e.1 (list_map (λ (e : Key × KeyState). e.1) es) ∙ (λ i. cond (each.0 i) 1 0 + none_stood es each.1 i)

abbrev blank : Key → KeyState
blank key = record { key = key; stood = None; leader = None }

-- without the key of a Stand one key less may have stood
without : (p : Key → Bool) (key : Key) (bid : ℕ) (h : List Input) (m : KeyMap) → AreStood p m (Stand key bid ∷ h) → AreStood p (map.insert m key (blank key)) h
unfolding first_stand bid_for
without p key bid h m are other s there has = at (is_key key other) refl (sym (get-put m key (blank key) other) ∙ there)
  where
    at : (b : Bool) → is_key key other ≡ b → cond b (Some (blank key)) (map.get m other) ≡ Some s → (p other ≡ true) × IsSome (first_stand h other)
    at true e is = let unstood = ap has_stood (same_Some (blank key) s is) in absurd (cc (unstood ∙ has))
    at false e is =
        let found = are other s is has in
        (found.0, subst IsSome (ap (λ b. first (cons_option (cond b (Some bid) None) (filter_map (bid_for other) h))) e) found.1)

few_stood : (p : Key → Bool) (h : List Input) (m : KeyMap) → AreStood p m h → stood_count m ≤ stands_with p h
unfolding first_stand bid_for first
few_stood p [] m are =
    let each : AllByRecursion (λ (e : Key × KeyState). has_stood e.1 ≡ false) (map.entries m) =
    each-entry key_cmp keys_total keys_exact (λ k s. has_stood s ≡ false) (map.entries m) (map.entries_sorted m) (λ k s found. unstood k s (map.get-entries m k ∙ found)) in
    let none = none_stood (map.entries m) each in
    omega (arith, none)
  where
    unstood : (k : Key) (s : KeyState) → map.get m k ≡ Some s → has_stood s ≡ false
    unstood k s there = at (has_stood s) refl
      where
        at : (b : Bool) → has_stood s ≡ b → b ≡ false
        at true e = absurd (cc (are k s there e).1)
        at false e = refl
few_stood p (Stand key bid ∷ h) m are = go (p key) refl (few_stood p h (map.insert m key (blank key)) (without p key bid h m are)) (few_stood p h m)
  where
    less : stood_count m ≤ stood_count (map.insert m key (blank key)) + 1
    less =
        let put = keys-put once m key (blank key) in
        let one = once_at_most (map.get m key) in
        omega (arith, put, one)

    -- the key does not pass, so another has the Stand
    other : p key ≡ false → AreStood p m h
    other fails k s there has = at (is_key key k) refl
      where
        found : (p k ≡ true) × IsSome (first_stand (Stand key bid ∷ h) k)
        found = are k s there has

        at : (b : Bool) → is_key key k ≡ b → (p k ≡ true) × IsSome (first_stand h k)
        at true e = let same = ap p (is_key-true key k e) in absurd (cc (sym fails ∙ (same ∙ found.0)))
        at false e = (found.0, subst IsSome (ap (λ b. first (cons_option (cond b (Some bid) None) (filter_map (bid_for k) h))) e) found.1)

    go : (b : Bool) → p key ≡ b → stood_count (map.insert m key (blank key)) ≤ stands_with p h → (AreStood p m h → stood_count m ≤ stands_with p h)
        → stood_count m ≤ length (cond b (Stand key bid ∷ filter (stand_with p) h) (filter (stand_with p) h))
    go true passes rest same = let more = less in omega (arith, rest, more)
    go false fails rest same = same (other fails)
few_stood p (Take msg_no msg ∷ h) m are = few_stood p h m are
few_stood p (Acked upto ∷ h) m are = few_stood p h m are
few_stood p (Retire group new ∷ h) m are = few_stood p h m are

-- ---- what a history says of its keys

both_of : (a b : Bool) → (a && not b) ≡ true → b ≡ false
both_of true true e = absurd (cc e)
both_of true false e = refl
both_of false b e = absurd (cc e)

some_of : (o : Option ℕ) → is_some o ≡ true → (k : ℕ) × (o ≡ Some k)
some_of None e = absurd (cc e)
some_of (Some k) e = (k, refl)

are_stood : (me : ℕ) (h : List Input) → AreStood (λ key. not (is_retired h key)) (key_states me h) h
unfolding stood
are_stood me h key s there has = at (is_known h key) refl (sym (get-states me h key) ∙ there)
  where
    at : (b : Bool) → is_known h key ≡ b → cond b (Some (state_of me h key)) None ≡ Some s → (not (is_retired h key) ≡ true) × IsSome (first_stand h key)
    at true e is =
        let found = some_of (stood h key) (ap has_stood (same_Some (state_of me h key) s is) ∙ has) in
        let parts = if_live-some h key (first_stand h key) found.0 found.1 in
        (ap not parts.0, subst IsSome (sym parts.1) refl)
    at false e is = none≢some s is

live-stands : (g h : List Input) → length (filter (is_live_stand g) h) ≡ stands_with (λ key. not (is_retired g key)) h
unfolding is_live_stand
live-stands g [] = refl
live-stands g (Stand key bid ∷ h) = go (not (is_retired g key)) (live-stands g h)
  where
    go : (b : Bool) → length (filter (is_live_stand g) h) ≡ stands_with (λ k. not (is_retired g k)) h
        → length (cond b (Stand key bid ∷ filter (is_live_stand g) h) (filter (is_live_stand g) h)) ≡ length (cond b (Stand key bid ∷ filter (stand_with (λ k. not (is_retired g k))) h) (filter (stand_with (λ k. not (is_retired g k))) h))
    go true e = ap suc e
    go false e = e
live-stands g (Take msg_no msg ∷ h) = live-stands g h
live-stands g (Acked upto ∷ h) = live-stands g h
live-stands g (Retire group new ∷ h) = live-stands g h

-- the Stands for keys that one of two tests lets pass, where no key passes both
parted : (p q r : Key → Bool) → ((key : Key) → cond (p key) 1 0 ≡ cond (q key) 1 0 + cond (r key) 1 0) → (h : List Input) → stands_with p h ≡ stands_with q h + stands_with r h
parted p q r each [] = refl
parted p q r each (Stand key bid ∷ h) = go (p key) (q key) (r key) (each key) (parted p q r each h)
  where
    go : (a b c : Bool) → cond a 1 0 ≡ cond b 1 0 + cond c 1 0 → stands_with p h ≡ stands_with q h + stands_with r h
        → length (cond a (Stand key bid ∷ filter (stand_with p) h) (filter (stand_with p) h))
        ≡ length (cond b (Stand key bid ∷ filter (stand_with q) h) (filter (stand_with q) h)) + length (cond c (Stand key bid ∷ filter (stand_with r) h) (filter (stand_with r) h))
    go true true true e rest = absurd (omega (arith, e))
    go true true false e rest = omega (arith, rest)
    go true false true e rest = omega (arith, rest)
    go true false false e rest = absurd (omega (arith, e))
    go false true c e rest = absurd (omega (arith, e))
    go false false true e rest = absurd (omega (arith, e))
    go false false false e rest = rest
parted p q r each (Take msg_no msg ∷ h) = parted p q r each h
parted p q r each (Acked upto ∷ h) = parted p q r each h
parted p q r each (Retire group new ∷ h) = parted p q r each h

-- ---- behind a Retire

module _ (me : ℕ) (h : List Input) (group : List ℕ) (new : ℕ) (above : floor h group < new) (counted : stands h ≡ stood_count (key_states me h)) where
  abbrev behind : List Input
  behind = h ++ Retire group new ∷ []

  abbrev kept : Key → Bool
  kept key = not (is_retired behind key)

  abbrev dropped : Key → Bool
  dropped key = not (is_retired h key) && drops group new key

  stands-all : stands h ≡ stands_with (λ key. not (is_retired h key)) h
  unfolding stands
  stands-all = live-stands h h

  stands-kept : stands behind ≡ stands_with kept h
  unfolding stands is_live_stand
  stands-kept =
      live-stands behind behind
      ∙ (ap length (filter-append (stand_with kept) h (Retire group new ∷ []) ∙ append-nil (filter (stand_with kept) h)))

  split : stands_with (λ key. not (is_retired h key)) h ≡ stands_with kept h + stands_with dropped h
  split = parted (λ key. not (is_retired h key)) kept dropped (λ key. each (is_retired h key) (is_retired behind key) (drops group new key) (retired-behind h group new above key)) h
    where
      each : (a b c : Bool) → b ≡ (a || c) → cond (not a) 1 0 ≡ cond (not b) 1 0 + cond (not a && c) 1 0
      each true b c e = ap (λ x. cond (not x) 1 0 + 0) (sym e)
      each false b true e = ap (λ x. cond (not x) 1 0 + 1) (sym e)
      each false b false e = ap (λ x. cond (not x) 1 0 + 0) (sym e)

  kept-few : stood_count (map.retain_keys (key_states me h) (λ key. not (drops group new key))) ≤ stands_with kept h
  unfolding bid_for
  kept-few = few_stood kept h _ (λ key s there has.
      let found = are_stood me behind key s (sym (ap (λ (m : KeyMap). map.get m key) (states-behind h group new above me)) ∙ there) has in
      (found.0, subst IsSome (first_stand-push h (Retire group new) key ∙ nothing (first_stand h key)) found.1))
    where
      nothing : (o : Option ℕ) → or_else o None ≡ o
      nothing None = refl
      nothing (Some y) = refl

  dropped-few : stood_count (map.retain_keys (key_states me h) (drops group new)) ≤ stands_with dropped h
  dropped-few = few_stood dropped h _ (λ key s there has. at key s has (drops group new key) refl (sym (map.get-retain_keys (key_states me h) (drops group new) key (alike (drops group new) key)) ∙ there))
    where
      at : (key : Key) (s : KeyState) → has_stood s ≡ true → (b : Bool) → drops group new key ≡ b → cond b (map.get (key_states me h) key) None ≡ Some s
          → (dropped key ≡ true) × IsSome (first_stand h key)
      at key s has true e is =
          let found = are_stood me h key s is has in
          ((λ i. found.0 i && e i), found.1)
      at key s has false e is = none≢some s is

  stands-behind : stands h - stood_count (map.retain_keys (key_states me h) (drops group new)) ≡ stands behind
  stands-behind =
      let parts = kept-and-dropped once (key_states me h) (drops group new) in
      omega (arith, parts, counted, stands-all, stands-kept, split, kept-few, dropped-few)

  retire-goes_on : stepped me (summary me h) (Retire group new) ≡ summary me behind
  unfolding message_of upto_of emit
  retire-goes_on =
      let same : sent me h ≡ sent me behind = sym (sent-push me h (Retire group new) ∙ append-nil (sent me h)) in
      let credited : credit h ≡ credit behind = sym (credit-push h (Retire group new)) in
      λ i. record {
        inputs = sym (length-append h (Retire group new ∷ [])) i;
        taken = sym (ap length (taken-push h (Retire group new) ∙ append-nil (taken h))) i;
        credit = credited i;
        sent = length (same i);
        stands = stands-behind i;
        keys = states-behind h group new above me i;
        window = drop (credited i) (same i);
        floors = sym (floors-put h group new) i;
      }

-- what is known of h, and one input more
pub known_next : (me n : ℕ) (h : List Input) (x : Input) → IsAllowed me n h x → credit h ≤ length (sent me h) → stands h ≡ stood_count (key_states me h)
    → stepped me (summary me h) x ≡ summary me (h ++ x ∷ [])
unfolding IsInTurn is_retire
known_next me n h (Stand key bid) a within counted = plain-known me n h (Stand key bid) refl a within
known_next me n h (Take msg_no msg) a within counted = plain-known me n h (Take msg_no msg) refl a within
known_next me n h (Acked upto) a within counted = plain-known me n h (Acked upto) refl a within
known_next me n h (Retire group new) a within counted = retire-goes_on me h group new a.in_turn.above counted

-- ---- the Stands of what is known, once an input is accepted

heard_stood : (me : ℕ) (s : Summary) (msg : Msg) → part_of once (map.get s.keys (key_of msg)) ≡ once (heard me s msg)
heard_stood me s msg = at (map.get s.keys (key_of msg))
  where
    at : (o : Option KeyState) → part_of once o ≡ cond (is_some (stood_of o)) 1 0
    at None = refl
    at (Some state) = refl

heard_counted : (below : Bool) (me : ℕ) (s : Summary) (msg : Msg) → s.stands ≡ stood_count s.keys → s.stands ≡ stood_count (cond below s.keys (map.insert s.keys (key_of msg) (heard me s msg)))
heard_counted true me s msg counted = counted
heard_counted false me s msg counted =
    let put = keys-put once s.keys (key_of msg) (heard me s msg) in
    let same = heard_stood me s msg in
    omega (arith, counted, put, same)

pub counted_next : (me n : ℕ) (s : Summary) (x : Input) → Objects n s x None → s.stands ≡ stood_count s.keys → (stepped me s x).stands ≡ stood_count (stepped me s x).keys
counted_next me n s (Stand key bid) free counted =
    let put = keys-put once s.keys key (record { key = key; stood = Some bid; leader = leader_of (known_of s key) }) in
    let none = ap (part_of once) (unnamed n s key bid free) in
    omega (arith, counted, put, none)
counted_next me n s (Take msg_no msg) free counted = heard_counted (is_below_floor s.floors (key_of msg)) me s msg counted
counted_next me n s (Acked upto) free counted = counted
counted_next me n s (Retire group new) free counted =
    let parts = kept-and-dropped once s.keys (drops group new) in
    omega (arith, counted, parts)
