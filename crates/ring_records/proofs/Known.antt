-- A summary tells what its history tells, and goes on as it does.
use Rattle.std.proofs.Common.{ℕ, ◌≡◌, ◌+◌, ◌-◌, ◌<◌, ◌≤◌, Bool, true, false, cond, ◌||◌, ◌&&◌, not, eqb, ltb, List, [], ◌∷◌, ◌++◌, length, drop, Option, Some, None, refl, sym, ap, ◌∙◌, append-nil, arith}
use Rattle.std.specs.FinMap as fin
use Rattle.std.specs.List.{cons_option}
use Rattle.std.specs.Prelude.{is_some, unwrap_or, nat_le, ◌^◌}
use Rattle.std.proofs.lemmas.Bool.{or_parts}
use Rattle.std.proofs.lemmas.List.{drop-drop, drop-append-le, length-append}
use Rattle.ring_records.specs.declared.input.Input.{Input}
use Rattle.ring_records.specs.declared.input.Input.TheVariants.{Stand, Take, Acked, Retire}
use Rattle.ring_records.specs.declared.key.Key.{Key}
use Rattle.ring_records.specs.declared.key_state.KeyState.{KeyState}
use Rattle.ring_records.specs.declared.limits.TheConstants.{STANDS}
use Rattle.ring_records.specs.declared.msg.Msg.{Msg}
use Rattle.ring_records.specs.declared.msg.Msg.TheVariants.{Token, Elected}
use Rattle.ring_records.specs.declared.refusal.Refusal.{Refusal}
use Rattle.ring_records.specs.declared.refusal.Refusal.TheVariants as refused
use Rattle.ring_records.specs.Admission.{is_retire}
use Rattle.ring_records.specs.Allowed.{IsInTurn, IsAllowed}
use Rattle.ring_records.specs.Objection.{where_so, retired, already, is_touched, stale, too_many, objection}
use Rattle.ring_records.specs.Emission.{passed_on, emit, sent}
use Rattle.ring_records.specs.History.{floor_for, floor, is_retired, if_live, names, is_named, touched, bid_for, first_stand, stood, message_of, taken, upto_of, credit, is_live_stand, stands}
use Rattle.ring_records.specs.FloorOf.{is_below_floor}
use Rattle.ring_records.specs.Known.{passed, shown, stood_of, leader_of, known_of, leads_in, retired_in, sends, heard, stepped, Objects}
use Rattle.ring_records.specs.Leader.{is_bid, makes_leader, first_leader, leader, latest, term_of}
use Rattle.ring_records.specs.Lists.{or_else, EachAfter}
use Rattle.ring_records.specs.Message.{key_of}
use Rattle.ring_records.specs.Order.{is_key}
use Rattle.ring_records.specs.Summary.{retired_group, state_of, key_states, summary}
use Rattle.ring_records.proofs.Compare.{keys_total, keys_exact, get-put}
use Rattle.ring_records.proofs.History.{taken-push, stood-push, leader-push, sent-push, credit-push, stands-push, retired-same, is_named-push, is_named-apart, stood-apart, leader-apart, if_live-same, unnamed-stand}
use Rattle.ring_records.proofs.Keys.{is_key-true, is_key-same}
use Rattle.ring_records.proofs.Latest.{latest_is, latest_same, one_latest}
use Rattle.ring_records.proofs.Lists.{along}
use Rattle.ring_records.proofs.Summaries.{is_known, get-states, live-touched, unknown-stood, unknown-leader, floor-known, floors-same}

-- ---- what a summary has at a key

stood_where : (me : ℕ) (h : List Input) (key : Key) (b : Bool) → is_known h key ≡ b → stood_of (cond b (Some (state_of me h key)) None) ≡ stood h key
stood_where me h key true e = refl
stood_where me h key false e = sym (unknown-stood h key e)

pub stood-known : (me : ℕ) (h : List Input) (key : Key) → stood_of (known_of (summary me h) key) ≡ stood h key
stood-known me h key = ap stood_of (get-states me h key) ∙ stood_where me h key (is_known h key) refl

leader_where : (me : ℕ) (h : List Input) (key : Key) (b : Bool) → is_known h key ≡ b → leader_of (cond b (Some (state_of me h key)) None) ≡ leader me h key
leader_where me h key true e = refl
leader_where me h key false e = sym (unknown-leader me h key e)

pub leader-known : (me : ℕ) (h : List Input) (key : Key) → leader_of (known_of (summary me h) key) ≡ leader me h key
leader-known me h key = ap leader_of (get-states me h key) ∙ leader_where me h key (is_known h key) refl

some_where : (b : Bool) (s : KeyState) → is_some (cond b (Some s) None) ≡ b
some_where true s = refl
some_where false s = refl

pub named-known : (me : ℕ) (h : List Input) (key : Key) → is_some (known_of (summary me h) key) ≡ is_known h key
named-known me h key = ap is_some (get-states me h key) ∙ some_where (is_known h key) (state_of me h key)

pub live-known : (me : ℕ) (h : List Input) (key : Key) → is_below_floor (summary me h).floors key ≡ is_retired h key
unfolding is_retired
live-known me h key = ap (ltb key.term) (floor-known h key.group)

pub retired-known : (me : ℕ) (h : List Input) (key : Key) → retired_in (summary me h) key ≡ retired h key
unfolding retired
retired-known me h key = λ i. where_so (live-known me h key i) (refused.Retired (floor-known h key.group i))

-- ---- what it sends, and has against an input

passed-same : (me : ℕ) (h : List Input) (msg : Msg) → passed_on me h msg ≡ passed me (stood h (key_of msg)) (leader me h (key_of msg)) msg
unfolding passed_on passed
passed-same me h (Token key c) = refl
passed-same me h (Elected key c) = refl

pub sends-known : (me : ℕ) (h : List Input) (x : Input) → sends me (summary me h) x ≡ emit me h x
unfolding emit
sends-known me h (Stand key bid) = refl
sends-known me h (Take msg_no msg) =
    (λ i. cond (live-known me h (key_of msg) i) None (passed me (stood-known me h (key_of msg) i) (leader-known me h (key_of msg) i) msg))
    ∙ ap (if_live h (key_of msg)) (sym (passed-same me h msg))
sends-known me h (Acked upto) = refl
sends-known me h (Retire group new) = refl

-- what is said first of a retired key hides whether it is touched
hidden : (b : Bool) (cause : Refusal) (known touched : Bool) (f : Bool → Option Refusal) → (b ≡ false → known ≡ touched) → or_else (where_so b cause) (f known) ≡ or_else (where_so b cause) (f touched)
hidden true cause known touched f same = refl
hidden false cause known touched f same = ap f (same refl)

stand_hides : (me : ℕ) (h : List Input) (key : Key) (rest : Option Refusal)
    → or_else (retired h key) (or_else (or_else (already (stood h key)) (where_so (is_known h key) refused.Late)) rest)
    ≡ or_else (retired h key) (or_else (or_else (already (stood h key)) (where_so (touched h key) refused.Late)) rest)
unfolding retired
stand_hides me h key rest =
    hidden (is_retired h key) (refused.Retired (floor h key.group)) (is_known h key) (touched h key) (λ b. or_else (or_else (already (stood h key)) (where_so b refused.Late)) rest) (live-touched h key)

pub objects-known : (me n : ℕ) (h : List Input) (x : Input) (o : Option Refusal) → Objects n (summary me h) x o → o ≡ objection me n h x
unfolding objection is_touched too_many
objects-known me n h (Stand key bid) o (led, is, e) =
    let same = one_latest (λ term. leader me h (record { group = key.group; term = term })) led (latest me h key.group)
    (latest_same (leads_in (summary me h) key.group) (λ term. leader me h (record { group = key.group; term = term })) (λ term. sym (leader-known me h (record { group = key.group; term = term }))) led is)
    (latest_is me h key.group) in
    e ∙ ((λ i. or_else (retired-known me h key i) (
    or_else (or_else (already (stood-known me h key i)) (where_so (named-known me h key i) refused.Late))
    (or_else (stale key.term (same i))
    (or_else (where_so (nat_le STANDS (stands h)) refused.Limit) (where_so (nat_le (2 ^ 56) (length h)) refused.Limit)))))
    ∙ stand_hides me h key (or_else (stale key.term (latest me h key.group)) (or_else (where_so (nat_le STANDS (stands h)) refused.Limit) (where_so (nat_le (2 ^ 56) (length h)) refused.Limit))))
objects-known me n h (Take msg_no msg) o e = e
objects-known me n h (Acked upto) o e = e
objects-known me n h (Retire group new) o (led, is, e) =
    let same = one_latest (λ term. leader me h (record { group = group; term = term })) led (latest me h group)
    (latest_same (leads_in (summary me h) group) (λ term. leader me h (record { group = group; term = term })) (λ term. sym (leader-known me h (record { group = group; term = term }))) led is)
    (latest_is me h group) in
    e ∙ (λ i. or_else (where_so (nat_le new (floor-known h group i)) (refused.Retired (floor-known h group i)))
    (or_else (where_so (ltb (term_of (same i)) new) refused.Undecided) (where_so (nat_le (2 ^ 56) (length h)) refused.Limit)))

-- it has against the input what its history says
pub objects-of : (me n : ℕ) (h : List Input) (x : Input) → Objects n (summary me h) x (objection me n h x)
unfolding objection is_touched too_many
objects-of me n h (Stand key bid) =
    let led = latest me h key.group in
    let is = latest_same (λ term. leader me h (record { group = key.group; term = term })) (leads_in (summary me h) key.group)
    (λ term. leader-known me h (record { group = key.group; term = term })) led (latest_is me h key.group) in (
      led,
      is,
      sym (stand_hides me h key (or_else (stale key.term led) (or_else (where_so (nat_le STANDS (stands h)) refused.Limit) (where_so (nat_le (2 ^ 56) (length h)) refused.Limit))))
          ∙ λ i. or_else (sym (retired-known me h key) i) (
          or_else (or_else (already (sym (stood-known me h key) i)) (where_so (sym (named-known me h key) i) refused.Late))
          (or_else (stale key.term led)
          (or_else (where_so (nat_le STANDS (stands h)) refused.Limit) (where_so (nat_le (2 ^ 56) (length h)) refused.Limit)))),
    )
objects-of me n h (Take msg_no msg) = refl
objects-of me n h (Acked upto) = refl
objects-of me n h (Retire group new) =
    let led = latest me h group in (
      led,
      latest_same (λ term. leader me h (record { group = group; term = term })) (leads_in (summary me h) group) (λ term. leader-known me h (record { group = group; term = term })) led (latest_is me h group),
      λ i. or_else (where_so (nat_le new (sym (floor-known h group) i)) (refused.Retired (sym (floor-known h group) i)))
          (or_else (where_so (ltb (term_of led) new) refused.Undecided) (where_so (nat_le (2 ^ 56) (length h)) refused.Limit)),
    )

-- ---- one more input

shows : (me : ℕ) (h : List Input) (msg_no : ℕ) (msg : Msg) (key : Key) → is_key (key_of msg) key ≡ true → is_retired h key ≡ false
    → makes_leader me key h (Take msg_no msg) ≡ shown me (stood h key) msg
unfolding makes_leader shown stood
shows me h msg_no (Token k c) key e live =
    ap (λ b. cond (b && (eqb c.node me) && is_bid (first_stand h key) c.bid) (Some c) None) e
    ∙ ap (λ (o : Option ℕ). cond ((eqb c.node me) && is_bid o c.bid) (Some c) None) (sym (if_live-same h key (first_stand h key) live))
shows me h msg_no (Elected k c) key e live = ap (λ b. cond (b && not (eqb c.node me)) (Some c) None) e

-- an input that gives no floor
abbrev Keeps : Input → Type 0
Keeps x = (group : List ℕ) → floor_for group x ≡ None

or_true : (b : Bool) → (b || true) ≡ true
or_true true = refl
or_true false = refl

-- the state of a key that the input does not name
state-apart : (me : ℕ) (h : List Input) (x : Input) (key : Key) → Keeps x → names key x ≡ false
    → cond (is_known h key) (Some (state_of me h key)) None ≡ cond (is_known (h ++ x ∷ []) key) (Some (state_of me (h ++ x ∷ []) key)) None
state-apart me h x key keeps apart = λ i.
    cond (sym (is_named-apart h x key apart) i && not (sym (retired-same h x key (keeps key.group)) i))
    (Some (record { key = key; stood = sym (stood-apart h x key apart (keeps key.group)) i; leader = sym (leader-apart me h x key apart (keeps key.group)) i })) None

-- the states after an input that names a key that is not retired: the one of the key is new, and the others are as before
states-named : (me : ℕ) (h : List Input) (x : Input) (key : Key) (s : KeyState) → Keeps x → ((other : Key) → names other x ≡ is_key key other) → is_retired h key ≡ false
    → s ≡ state_of me (h ++ x ∷ []) key → fin.insert (key_states me h) key s ≡ key_states me (h ++ x ∷ [])
states-named me h x key s keeps named live e = fin.same_map keys_total keys_exact _ _ (λ other. get-put (key_states me h) key s other ∙ at other (is_key key other) refl)
  where
    known : (other : Key) → is_key key other ≡ true → is_known (h ++ x ∷ []) other ≡ true
    known other f =
        (λ i. (is_named-push h x other ∙ (ap (λ b. is_named h other || b) (named other ∙ f) ∙ or_true (is_named h other))) i
        && not ((retired-same h x other (keeps other.group) ∙ (ap (is_retired h) (sym (is_key-true key other f)) ∙ live)) i))

    at : (other : Key) (b : Bool) → is_key key other ≡ b → cond b (Some s) (fin.get (key_states me h) other) ≡ fin.get (key_states me (h ++ x ∷ [])) other
    at other true f =
        ap Some (e ∙ ap (state_of me (h ++ x ∷ [])) (is_key-true key other f))
        ∙ sym (get-states me (h ++ x ∷ []) other ∙ ap (λ b. cond b (Some (state_of me (h ++ x ∷ []) other)) None) (known other f))
    at other false f = get-states me h other ∙ (state-apart me h x other keeps (named other ∙ f) ∙ sym (get-states me (h ++ x ∷ []) other))

-- the states after one that names a retired key
states-below : (me : ℕ) (h : List Input) (x : Input) (key : Key) → Keeps x → ((other : Key) → names other x ≡ is_key key other) → is_retired h key ≡ true
    → key_states me h ≡ key_states me (h ++ x ∷ [])
states-below me h x key keeps named gone = fin.same_map keys_total keys_exact _ _ (λ other. get-states me h other ∙ (at other (is_key key other) refl ∙ sym (get-states me (h ++ x ∷ []) other)))
  where
    and_none : (b : Bool) → (b && false) ≡ false
    and_none true = refl
    and_none false = refl

    unknown : (g : List Input) (other : Key) → is_retired g other ≡ true → is_known g other ≡ false
    unknown g other e = ap (λ b. is_named g other && not b) e ∙ and_none (is_named g other)

    at : (other : Key) (b : Bool) → is_key key other ≡ b → cond (is_known h other) (Some (state_of me h other)) None ≡ cond (is_known (h ++ x ∷ []) other) (Some (state_of me (h ++ x ∷ []) other)) None
    at other true f =
        let same : is_retired h other ≡ true = ap (is_retired h) (sym (is_key-true key other f)) ∙ gone in
        ap (λ b. cond b (Some (state_of me h other)) None) (unknown h other same)
        ∙ sym (ap (λ b. cond b (Some (state_of me (h ++ x ∷ []) other)) None) (unknown (h ++ x ∷ []) other (retired-same h x other (keeps other.group) ∙ same)))
    at other false f = state-apart me h x other keeps (named other ∙ f)

-- and after one that names no key
states-unnamed : (me : ℕ) (h : List Input) (x : Input) → Keeps x → ((key : Key) → names key x ≡ false) → key_states me h ≡ key_states me (h ++ x ∷ [])
states-unnamed me h x keeps none = fin.same_map keys_total keys_exact _ _ (λ key. get-states me h key ∙ (state-apart me h x key keeps (none key) ∙ sym (get-states me (h ++ x ∷ []) key)))

grown : (me : ℕ) (h : List Input) (x : Input) (on : Option Msg) → on ≡ emit me h x → length (sent me h) + length (cons_option on []) ≡ length (sent me (h ++ x ∷ []))
grown me h x on e = ap (λ o. length (sent me h) + length (cons_option o [])) e ∙ sym (ap length (sent-push me h x) ∙ length-append (sent me h) (cons_option (emit me h x) []))

window-grown : (me : ℕ) (h : List Input) (x : Input) (on : Option Msg) → on ≡ emit me h x → upto_of x ≡ None → credit h ≤ length (sent me h)
    → drop (credit h) (sent me h) ++ cons_option on [] ≡ drop (credit (h ++ x ∷ [])) (sent me (h ++ x ∷ []))
window-grown me h x on e none within =
    ap (λ o. drop (credit h) (sent me h) ++ cons_option o []) e
    ∙ (sym (drop-append-le (credit h) (sent me h) (cons_option (emit me h x) []) within)
    ∙ sym (λ i. drop ((credit-push h x ∙ ap (λ o. unwrap_or o (credit h)) none) i) (sent-push me h x i)))

-- ---- the whole summary

abbrev pub goes_on : ℕ → List Input → Input → Type 0
goes_on me h x = stepped me (summary me h) x ≡ summary me (h ++ x ∷ [])

inputs-grown : (h : List Input) (x : Input) → length h + 1 ≡ length (h ++ x ∷ [])
inputs-grown h x = sym (length-append h (x ∷ []))

plus_none : (n : ℕ) → n ≡ n + 0
plus_none n = omega arith

stood-first : (h : List Input) (key : Key) (bid : ℕ) → is_retired h key ≡ false → is_named h key ≡ false → stood (h ++ Stand key bid ∷ []) key ≡ Some bid
unfolding bid_for floor_for
stood-first h key bid live new =
    stood-push h (Stand key bid) key refl
    ∙ (if_live-same h key (or_else (first_stand h key) (bid_for key (Stand key bid))) live
    ∙ ((λ i. or_else (unnamed-stand h key new i) (cond (is_key key key) (Some bid) None)) ∙ ap (λ b. cond b (Some bid) None) (is_key-same key)))

none_more : {A : Type 0} (o : Option A) → o ≡ or_else o None
none_more None = refl
none_more (Some x) = refl

-- the leader of a key that is not retired, and its bid, once one more input shows this of it
leader-more : (me : ℕ) (h : List Input) (x : Input) (key : Key) → Keeps x → is_retired h key ≡ false → or_else (leader me h key) (makes_leader me key h x) ≡ leader me (h ++ x ∷ []) key
unfolding leader
leader-more me h x key keeps live =
    ap (λ o. or_else o (makes_leader me key h x)) (if_live-same h key (first_leader me h key) live)
    ∙ sym (leader-push me h x key (keeps key.group) ∙ if_live-same h key (or_else (first_leader me h key) (makes_leader me key h x)) live)

stood-more : (h : List Input) (x : Input) (key : Key) → Keeps x → is_retired h key ≡ false → or_else (stood h key) (bid_for key x) ≡ stood (h ++ x ∷ []) key
unfolding stood
stood-more h x key keeps live =
    ap (λ o. or_else o (bid_for key x)) (if_live-same h key (first_stand h key) live)
    ∙ sym (stood-push h x key (keeps key.group) ∙ if_live-same h key (or_else (first_stand h key) (bid_for key x)) live)

stand-goes_on : (me : ℕ) (h : List Input) (key : Key) (bid : ℕ) → touched h key ≡ false → credit h ≤ length (sent me h) → goes_on me h (Stand key bid)
unfolding touched names makes_leader message_of upto_of is_live_stand emit floor_for retired_group
stand-goes_on me h key bid e within =
    let parts = or_parts (is_retired h key) (is_named h key) e in
    λ i. record {
      inputs = inputs-grown h (Stand key bid) i;
      taken = sym (ap length (taken-push h (Stand key bid) ∙ append-nil (taken h))) i;
      credit = sym (credit-push h (Stand key bid)) i;
      sent = grown me h (Stand key bid) (Some (Token key (record { bid = bid; node = me }))) refl i;
      stands = (ap (λ (b : Bool). stands h + cond (not b) 1 0) (sym parts.0) ∙ sym (stands-push h (Stand key bid) (λ group. refl))) i;
      keys = states-named me h (Stand key bid) key (record { key = key; stood = Some bid; leader = leader_of (known_of (summary me h) key) }) (λ group. refl) (λ other. refl) parts.0 (λ j. record {
        key = key;
        stood = sym (stood-first h key bid parts.0 parts.1) j;
        leader = (leader-known me h key ∙ (none_more (leader me h key) ∙ leader-more me h (Stand key bid) key (λ group. refl) parts.0)) j;
      }) i;
      window = window-grown me h (Stand key bid) (Some (Token key (record { bid = bid; node = me }))) refl refl within i;
      floors = sym (floors-same h (Stand key bid) refl (λ group. refl)) i;
    }

take-goes_on : (me : ℕ) (h : List Input) (msg_no : ℕ) (msg : Msg) → credit h ≤ length (sent me h) → goes_on me h (Take msg_no msg)
unfolding names bid_for message_of upto_of is_live_stand floor_for retired_group
take-goes_on me h msg_no msg within =
    let on = sends-known me h (Take msg_no msg) in
    λ i. record {
      inputs = inputs-grown h (Take msg_no msg) i;
      taken = sym (ap length (taken-push h (Take msg_no msg)) ∙ length-append (taken h) (msg ∷ [])) i;
      credit = sym (credit-push h (Take msg_no msg)) i;
      sent = grown me h (Take msg_no msg) (sends me (summary me h) (Take msg_no msg)) on i;
      stands = (plus_none (stands h) ∙ sym (stands-push h (Take msg_no msg) (λ group. refl))) i;
      keys = (ap (λ (b : Bool). cond b (key_states me h) (fin.insert (key_states me h) (key_of msg) (heard me (summary me h) msg))) (live-known me h (key_of msg)) ∙ at (is_retired h (key_of msg)) refl) i;
      window = window-grown me h (Take msg_no msg) (sends me (summary me h) (Take msg_no msg)) on refl within i;
      floors = sym (floors-same h (Take msg_no msg) refl (λ group. refl)) i;
    }
  where
    at : (b : Bool) → is_retired h (key_of msg) ≡ b → cond b (key_states me h) (fin.insert (key_states me h) (key_of msg) (heard me (summary me h) msg)) ≡ key_states me (h ++ Take msg_no msg ∷ [])
    at true gone = states-below me h (Take msg_no msg) (key_of msg) (λ group. refl) (λ other. refl) gone
    at false live = states-named me h (Take msg_no msg) (key_of msg) (heard me (summary me h) msg) (λ group. refl) (λ other. refl) live (λ j. record {
      key = key_of msg;
      stood = (stood-known me h (key_of msg) ∙ (none_more (stood h (key_of msg)) ∙ stood-more h (Take msg_no msg) (key_of msg) (λ group. refl) live)) j;
      leader = ((λ k. or_else (leader-known me h (key_of msg) k) ((ap (λ o. shown me o msg) (stood-known me h (key_of msg)) ∙ sym (shows me h msg_no msg (key_of msg) (is_key-same (key_of msg)) live)) k))
          ∙ leader-more me h (Take msg_no msg) (key_of msg) (λ group. refl) live) j;
    })

acked-goes_on : (me : ℕ) (h : List Input) (upto : ℕ) → credit h < upto → goes_on me h (Acked upto)
unfolding names message_of upto_of is_live_stand emit floor_for retired_group
acked-goes_on me h upto above =
    let more : credit h + (upto - credit h) ≡ upto = omega arith in
    let same : sent me h ≡ sent me (h ++ Acked upto ∷ []) = sym (sent-push me h (Acked upto) ∙ append-nil (sent me h)) in
    λ i. record {
      inputs = inputs-grown h (Acked upto) i;
      taken = sym (ap length (taken-push h (Acked upto) ∙ append-nil (taken h))) i;
      credit = sym (credit-push h (Acked upto)) i;
      sent = length (same i);
      stands = (plus_none (stands h) ∙ sym (stands-push h (Acked upto) (λ group. refl))) i;
      keys = states-unnamed me h (Acked upto) (λ group. refl) (λ key. refl) i;
      window = (drop-drop (upto - credit h) (credit h) (sent me h) ∙ ((λ j. drop (more j) (same j)) ∙ ap (λ n. drop n (sent me (h ++ Acked upto ∷ []))) (sym (credit-push h (Acked upto))))) i;
      floors = sym (floors-same h (Acked upto) refl (λ group. refl)) i;
    }

-- an input that is no Retire: what is known goes on
pub plain-known : (me n : ℕ) (h : List Input) (x : Input) → is_retire x ≡ false → IsAllowed me n h x → credit h ≤ length (sent me h) → stepped me (summary me h) x ≡ summary me (h ++ x ∷ [])
unfolding IsInTurn is_retire
plain-known me n h (Stand key bid) plain a within = stand-goes_on me h key bid a.in_turn.untouched within
plain-known me n h (Take msg_no msg) plain a within = take-goes_on me h msg_no msg within
plain-known me n h (Acked upto) plain a within = acked-goes_on me h upto a.in_turn.above
plain-known me n h (Retire group new) plain a within = absurd cc

-- no more is credited than was sent
pub credit-next : (me n : ℕ) (h : List Input) (x : Input) → IsAllowed me n h x → credit h ≤ length (sent me h) → credit (h ++ x ∷ []) ≤ length (sent me (h ++ x ∷ []))
unfolding upto_of IsInTurn
credit-next me n h (Stand key bid) a le =
    let same = credit-push h (Stand key bid) in
    let more = ap length (sent-push me h (Stand key bid)) ∙ length-append (sent me h) (cons_option (emit me h (Stand key bid)) []) in
    omega arith
credit-next me n h (Take msg_no msg) a le =
    let same = credit-push h (Take msg_no msg) in
    let more = ap length (sent-push me h (Take msg_no msg)) ∙ length-append (sent me h) (cons_option (emit me h (Take msg_no msg)) []) in
    omega arith
credit-next me n h (Acked upto) a le =
    let same = credit-push h (Acked upto) in
    let within = a.in_turn.sent in
    let more = ap length (sent-push me h (Acked upto)) ∙ length-append (sent me h) (cons_option (emit me h (Acked upto)) []) in
    omega arith
credit-next me n h (Retire group new) a le =
    let same = credit-push h (Retire group new) in
    let more = ap length (sent-push me h (Retire group new)) ∙ length-append (sent me h) (cons_option (emit me h (Retire group new)) []) in
    omega arith

pub credit-sent : (me n : ℕ) (h : List Input) → EachAfter (IsAllowed me n) [] h → credit h ≤ length (sent me h)
unfolding credit
credit-sent me n h each = along (IsAllowed me n) (λ g. credit g ≤ length (sent me g)) (λ g x a le. credit-next me n g x a le) [] h each (omega arith)
