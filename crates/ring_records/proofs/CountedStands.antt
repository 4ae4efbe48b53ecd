-- The Stands of a history that count are as many as its keys with a bid: by the inputs alone, for the keys of any kind.
use Rattle.std.proofs.Common.{ℕ, suc, ◌≡◌, ◌+◌, Bool, true, false, cond, not, ◌||◌, ◌&&◌, List, [], ◌∷◌, ◌++◌, map as list_map, length, Option, Some, None, refl, sym, ap, ◌∙◌, arith}
use Rattle.std.specs.FinMap as fin
use Rattle.std.specs.List.{count_by, filter, filter_map}
use Rattle.std.specs.List.Sorted.{IsStrictlySortedBy}
use Rattle.std.specs.Prelude.{is_some}
use Rattle.std.proofs.lemmas.Bool.{or_parts}
use Rattle.std.proofs.lemmas.List.{length-append}
use Rattle.std.proofs.lemmas.List.Elements.{filter-append}
use Rattle.ring_records.specs.declared.candidate.Candidate.{Candidate}
use Rattle.ring_records.specs.declared.input.Input.{Input}
use Rattle.ring_records.specs.declared.input.Input.TheVariants.{Stand, Take, Acked, Retire}
use Rattle.ring_records.specs.declared.key.Key.{Key}
use Rattle.ring_records.specs.declared.key_state.KeyState.{KeyState}
use Rattle.ring_records.specs.declared.msg.Msg.{Msg}
use Rattle.ring_records.specs.Allowed.{IsInTurn, IsAllowed}
use Rattle.ring_records.specs.History.{is_retired, names, is_named, touched, bid_for, first_stand, stood, is_live_stand, stands}
use Rattle.ring_records.specs.KeyOrder.{key_cmp}
use Rattle.ring_records.specs.KeyStates.{keyed, under_key}
use Rattle.ring_records.specs.Leader.{leader}
use Rattle.ring_records.specs.Lists.{or_else, EachAfter}
use Rattle.ring_records.specs.Message.{key_of}
use Rattle.ring_records.specs.Order.{is_key}
use Rattle.ring_records.specs.Snapshot.{has_stood}
use Rattle.ring_records.specs.Summary.{named, state_of, key_states}
use Rattle.ring_records.proofs.Compare.{keys_total, keys_exact, get-key, get-put}
use Rattle.ring_records.proofs.History.{first_stand-push, first_stand-apart, is_named-push, is_named-apart, if_live-same, unnamed-stand}
use Rattle.ring_records.proofs.Keys.{is_key-true, is_key-same}
use Rattle.ring_records.proofs.KeysPut.{part_of, keys-put}
use Rattle.ring_records.proofs.Lists.{along}
use Rattle.ring_records.proofs.StatesInOrder.{values-keyed}
use Rattle.ring_records.proofs.Summaries.{get-kept, get-states, and-true}

-- a Stand for a key that passes the test
abbrev pub stand_with : (Key → Bool) → Input → Bool
stand_with p (Stand key bid) = p key
stand_with p (Take msg_no msg) = false
stand_with p (Acked upto) = false
stand_with p (Retire group new) = false

abbrev pub stands_with : (Key → Bool) → List Input → ℕ
stands_with p h = length (filter (stand_with p) h)

abbrev once : KeyState → ℕ
once s = cond (has_stood s) 1 0

zero_when : (b : Bool) → b ≡ false → ◌≡◌ {A = ℕ} (cond b 1 0) 0
zero_when true e = absurd cc
zero_when false e = refl

one_when : (b : Bool) → b ≡ true → ◌≡◌ {A = ℕ} (cond b 1 0) 1
one_when true e = refl
one_when false e = absurd cc

or_true : (b : Bool) → (b || true) ≡ true
or_true true = refl
or_true false = refl

-- the keys that pass the test, whatever their leaders are
module _ (p : Key → Bool) (lead : Key → Option Candidate) where
  abbrev first_state : List Input → Key → KeyState
  first_state h key = record { key = key; stood = first_stand h key; leader = lead key }

  abbrev firsts : List Input → fin.FinMap key_cmp KeyState
  firsts h = keyed (list_map (first_state h) (filter p (filter_map named h)))

  get-firsts : (h : List Input) (key : Key) → fin.get (firsts h) key ≡ cond (is_named h key && p key) (Some (first_state h key)) None
  get-firsts h key = get-key (list_map under_key (list_map (first_state h) (filter p (filter_map named h)))) key ∙ get-kept p (first_state h) (λ k. refl) h key

  -- a key that the input does not name
  first-apart : (h : List Input) (x : Input) (other : Key) → names other x ≡ false → fin.get (firsts h) other ≡ fin.get (firsts (h ++ x ∷ [])) other
  first-apart h x other apart =
      get-firsts h other
      ∙ ((λ i. cond (sym (is_named-apart h x other apart) i && p other) (Some (record { key = other; stood = sym (first_stand-apart h x other apart) i; leader = lead other })) None)
      ∙ sym (get-firsts (h ++ x ∷ []) other))

  firsts-named : (h : List Input) (x : Input) (key : Key) → ((other : Key) → names other x ≡ is_key key other) → p key ≡ true
      → firsts (h ++ x ∷ []) ≡ fin.insert (firsts h) key (first_state (h ++ x ∷ []) key)
  firsts-named h x key named passes = fin.same_map keys_total keys_exact _ _ (λ other. sym (get-put (firsts h) key (first_state (h ++ x ∷ []) key) other ∙ at other (is_key key other) refl))
    where
      at : (other : Key) (b : Bool) → is_key key other ≡ b → cond b (Some (first_state (h ++ x ∷ []) key)) (fin.get (firsts h) other) ≡ fin.get (firsts (h ++ x ∷ [])) other
      at other true f =
          ap (λ (k : Key). Some (first_state (h ++ x ∷ []) k)) (is_key-true key other f)
          ∙ sym (get-firsts (h ++ x ∷ []) other
          ∙ (λ i. cond ((is_named-push h x other ∙ (ap (λ b. is_named h other || b) (named other ∙ f) ∙ or_true (is_named h other))) i && (ap p (sym (is_key-true key other f)) ∙ passes) i) (Some (first_state (h ++ x ∷ []) other)) None))
      at other false f = first-apart h x other (named other ∙ f)

  -- one that names no key that passes
  firsts-same : (h : List Input) (x : Input) → ((other : Key) → names other x ≡ true → p other ≡ false) → firsts (h ++ x ∷ []) ≡ firsts h
  firsts-same h x fails = fin.same_map keys_total keys_exact _ _ (λ other. sym (at other (names other x) refl))
    where
      and_none : (b : Bool) → (b && false) ≡ false
      and_none true = refl
      and_none false = refl

      at : (other : Key) (b : Bool) → names other x ≡ b → fin.get (firsts h) other ≡ fin.get (firsts (h ++ x ∷ [])) other
      at other true e =
          get-firsts h other
          ∙ (ap (λ b. cond (is_named h other && b) (Some (first_state h other)) None) (fails other e)
          ∙ (ap (λ b. cond b (Some (first_state h other)) None) (and_none (is_named h other))
          ∙ sym (get-firsts (h ++ x ∷ []) other
          ∙ (ap (λ b. cond (is_named (h ++ x ∷ []) other && b) (Some (first_state (h ++ x ∷ []) other)) None) (fails other e)
          ∙ ap (λ b. cond b (Some (first_state (h ++ x ∷ []) other)) None) (and_none (is_named (h ++ x ∷ []) other))))))
      at other false e = first-apart h x other e

  abbrev IsCounted : List Input → Type 0
  IsCounted h = stands_with p h ≡ count_by has_stood (fin.values (firsts h))

  count-push : (h : List Input) (x : Input) → stands_with p (h ++ x ∷ []) ≡ stands_with p h + cond (stand_with p x) 1 0
  count-push h x = ap length (filter-append (stand_with p) h (x ∷ [])) ∙ (length-append (filter (stand_with p) h) (filter (stand_with p) (x ∷ [])) ∙ go (stand_with p x))
    where
      go : (b : Bool) → stands_with p h + length (cond b (x ∷ []) []) ≡ stands_with p h + cond b 1 0
      go true = refl
      go false = refl

  -- an input that is no such Stand, and names no key that passes
  other-next : (h : List Input) (x : Input) → stand_with p x ≡ false → ((other : Key) → names other x ≡ true → p other ≡ false) → IsCounted h → IsCounted (h ++ x ∷ [])
  other-next h x none fails counted =
      let more = count-push h x in
      let zero = zero_when (stand_with p x) none in
      let same = ap (λ (m : fin.FinMap key_cmp KeyState). count_by has_stood (fin.values m)) (firsts-same h x fails) in
      omega arith

  is_same : (key other : Key) → is_key key other ≡ true → (b : Bool) → p key ≡ b → p other ≡ b
  is_same key other e b f = ap p (sym (is_key-true key other e)) ∙ f

  stand-next : (h : List Input) (key : Key) (bid : ℕ) → is_named h key ≡ false → IsCounted h → IsCounted (h ++ Stand key bid ∷ [])
  unfolding names bid_for
  stand-next h key bid new counted = go (p key) refl
    where
      go : (b : Bool) → p key ≡ b → IsCounted (h ++ Stand key bid ∷ [])
      go false fails = other-next h (Stand key bid) fails (λ other e. is_same key other e false fails) counted
      go true passes =
          let v : KeyState = first_state (h ++ Stand key bid ∷ []) key in
          let put = keys-put once (firsts h) key v in
          let none = ap (part_of once) (get-firsts h key ∙ ap (λ b. cond (b && p key) (Some (first_state h key)) None) new) in
          let stood : first_stand (h ++ Stand key bid ∷ []) key ≡ Some bid =
          first_stand-push h (Stand key bid) key ∙ ((λ i. or_else (unnamed-stand h key new i) (cond (is_key key key) (Some bid) None)) ∙ ap (λ b. cond b (Some bid) None) (is_key-same key)) in
          let one : once v ≡ 1 = ap (λ (o : Option ℕ). cond (is_some o) 1 0) stood in
          let more = count-push h (Stand key bid) in
          let counts = one_when (p key) passes in
          let whole = ap (λ (m : fin.FinMap key_cmp KeyState). count_by has_stood (fin.values m)) (firsts-named h (Stand key bid) key (λ other. refl) passes) in
          omega arith

  take-next : (h : List Input) (msg_no : ℕ) (msg : Msg) → IsCounted h → IsCounted (h ++ Take msg_no msg ∷ [])
  unfolding names bid_for
  take-next h msg_no msg counted = go (p (key_of msg)) refl
    where
      nothing : (o : Option ℕ) → or_else o None ≡ o
      nothing None = refl
      nothing (Some y) = refl

      was : (b : Bool) → is_named h (key_of msg) ≡ b → part_of once (cond b (Some (first_state h (key_of msg))) None) ≡ once (first_state h (key_of msg))
      was true e = refl
      was false e = sym (ap (λ (o : Option ℕ). cond (is_some o) 1 0) (unnamed-stand h (key_of msg) e))

      go : (b : Bool) → p (key_of msg) ≡ b → IsCounted (h ++ Take msg_no msg ∷ [])
      go false fails = other-next h (Take msg_no msg) refl (λ other e. is_same (key_of msg) other e false fails) counted
      go true passes =
          let key : Key = key_of msg in
          let v : KeyState = first_state (h ++ Take msg_no msg ∷ []) key in
          let put = keys-put once (firsts h) key v in
          let there : fin.get (firsts h) key ≡ cond (is_named h key) (Some (first_state h key)) None = get-firsts h key ∙ ap (λ b. cond b (Some (first_state h key)) None) (ap (λ b. is_named h key && b) passes ∙ and-true (is_named h key)) in
          let same = ap (part_of once) there ∙ was (is_named h key) refl in
          let now : once v ≡ once (first_state h key) = ap (λ (o : Option ℕ). cond (is_some o) 1 0) (first_stand-push h (Take msg_no msg) key ∙ nothing (first_stand h key)) in
          let more = count-push h (Take msg_no msg) in
          let whole = ap (λ (m : fin.FinMap key_cmp KeyState). count_by has_stood (fin.values m)) (firsts-named h (Take msg_no msg) key (λ other. refl) passes) in
          omega arith

  next : (me n : ℕ) (h : List Input) (x : Input) → IsAllowed me n h x → IsCounted h → IsCounted (h ++ x ∷ [])
  unfolding IsInTurn touched names
  next me n h (Stand key bid) a counted = stand-next h key bid (or_parts (is_retired h key) (is_named h key) a.in_turn.untouched).1 counted
  next me n h (Take msg_no msg) a counted = take-next h msg_no msg counted
  next me n h (Acked upto) a counted = other-next h (Acked upto) refl (λ other e. absurd cc) counted
  next me n h (Retire group new) a counted = other-next h (Retire group new) refl (λ other e. absurd cc) counted

  none : IsCounted []
  unfolding IsStrictlySortedBy
  none = sym (ap (count_by has_stood) (values-keyed [] tt))

  all-counted : (me n : ℕ) (h : List Input) → EachAfter (IsAllowed me n) [] h → IsCounted h
  all-counted me n h each = along (IsAllowed me n) IsCounted (next me n) [] h each none

-- ---- those that are not retired

live-stands : (g h : List Input) → length (filter (is_live_stand g) h) ≡ stands_with (λ key. not (is_retired g key)) h
unfolding is_live_stand
live-stands g [] = refl
live-stands g (Stand key bid ∷ h) = go (not (is_retired g key)) (live-stands g h)
  where
    go : (b : Bool) → length (filter (is_live_stand g) h) ≡ stands_with (λ k. not (is_retired g k)) h
        → length (cond b (Stand key bid ∷ filter (is_live_stand g) h) (filter (is_live_stand g) h)) ≡ length (cond b (Stand key bid ∷ filter (stand_with (λ k. not (is_retired g k))) h) (filter (stand_with (λ k. not (is_retired g k))) h))
    go true e = ap suc e
    go false e = e
live-stands g (Take msg_no msg ∷ h) = live-stands g h
live-stands g (Acked upto ∷ h) = live-stands g h
live-stands g (Retire group new ∷ h) = live-stands g h

live-states : (me : ℕ) (h : List Input) → firsts (λ key. not (is_retired h key)) (leader me h) h ≡ key_states me h
unfolding stood
live-states me h = fin.same_map keys_total keys_exact _ _ (λ key.
    get-firsts (λ k. not (is_retired h k)) (leader me h) h key
    ∙ (at key (is_retired h key) refl ∙ sym (get-states me h key)))
  where
    and_none : (b : Bool) → (b && false) ≡ false
    and_none true = refl
    and_none false = refl

    at : (key : Key) (b : Bool) → is_retired h key ≡ b
        → cond (is_named h key && not (is_retired h key)) (Some (record { key = key; stood = first_stand h key; leader = leader me h key })) None ≡ cond (is_named h key && not (is_retired h key)) (Some (state_of me h key)) None
    at key true gone =
        let none = ap (λ b. is_named h key && not b) gone ∙ and_none (is_named h key) in
        ap (λ b. cond b (Some (record { key = key; stood = first_stand h key; leader = leader me h key })) None) none ∙ sym (ap (λ b. cond b (Some (state_of me h key)) None) none)
    at key false live = ap (λ (o : Option ℕ). cond (is_named h key && not (is_retired h key)) (Some (record { key = key; stood = o; leader = leader me h key })) None) (sym (if_live-same h key (first_stand h key) live))

pub stands-counted : (me n : ℕ) (h : List Input) → EachAfter (IsAllowed me n) [] h → stands h ≡ count_by has_stood (fin.values (key_states me h))
unfolding stands
stands-counted me n h each =
    live-stands h h
    ∙ (all-counted (λ key. not (is_retired h key)) (leader me h) me n h each
    ∙ ap (λ (m : fin.FinMap key_cmp KeyState). count_by has_stood (fin.values m)) (live-states me h))
