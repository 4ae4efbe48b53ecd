-- What a core does whose history is told: its clauses over histories, from what it knows.
use Rattle.std.proofs.Common.{ℕ, ◌≡◌, ◌≤◌, Bool, true, false, cond, ◌&&◌, ◌||◌, eqb, not, List, [], ◌∷◌, ◌++◌, length, drop, Ok, Err, Option, Some, None, refl, sym, ap, subst, ◌∙◌, arith}
use Rattle.std.specs.Prelude.{is_none}
use Rattle.std.specs.List.{list_any}
use Rattle.std.specs.Option.{option_map}
use Rattle.std.proofs.lemmas.Bool.{le-leb}
use Rattle.std.proofs.lemmas.List.{drop-append-le, drop_all, length-append}
use Rattle.std.proofs.lemmas.List.Folds.{list_any-append}
use Rattle.ring_records.specs.declared.base.Base.{Base}
use Rattle.ring_records.specs.declared.candidate.Candidate.{Candidate}
use Rattle.ring_records.specs.declared.input.Input.{Input}
use Rattle.ring_records.specs.declared.input.Input.TheVariants.{Stand, Take, Acked, Retire}
use Rattle.ring_records.specs.declared.key.Key.{Key}
use Rattle.ring_records.specs.declared.msg.Msg.{Msg}
use Rattle.ring_records.specs.declared.msg.Msg.TheVariants.{Token, Elected}
use Rattle.ring_records.specs.declared.notice.Notice.TheVariants.{Decided}
use Rattle.ring_records.specs.declared.packet.Packet.TheVariants.{Carry}
use Rattle.ring_records.specs.declared.refusal.Refusal.{Refusal}
use Rattle.ring_records.specs.declared.refusal.Refusal.TheVariants as refused
use Rattle.ring_records.specs.declared.summary.Summary.{Summary}
use Rattle.ring_records.specs.Admission.{base_of, costs_of, is_retire, no_room, room_of, shortage, snapshot_len, used, newest}
use Rattle.ring_records.specs.Answering.{refusal}
use Rattle.ring_records.specs.Allowed.{IsAllowed}
use Rattle.ring_records.specs.Objection.{objection}
use Rattle.ring_records.specs.Answer as by_rule
use Rattle.ring_records.specs.Emission.{is_below, passed_on, emit, sent}
use Rattle.ring_records.specs.Release.{carry}
use Rattle.ring_records.specs.History.{floor_for, is_retired, first_stand, stood}
use Rattle.ring_records.specs.Known.{Objects, sends, stepped, known_of, leader_of, leads_in}
use Rattle.ring_records.specs.Leader.{is_bid, makes_leader, first_leader, leader, latest}
use Rattle.ring_records.specs.Latest.{IsLatest}
use Rattle.ring_records.specs.Decided.{newly, decided, told}
use Rattle.ring_records.specs.Lists.{or_else}
use Rattle.ring_records.specs.Message.{key_of}
use Rattle.ring_records.specs.Order.{is_key}
use Rattle.ring_records.specs.Summary.{summary}
use Rattle.ring_records.proofs.Admission.{or_else-none, objection-allowed}
use Rattle.ring_records.proofs.Counts.{used-more, shown-decided}
use Rattle.ring_records.proofs.History.{if_live-none, if_live-same, leader-push, or-false}
use Rattle.ring_records.proofs.Keys.{is_key-same}
use Rattle.ring_records.proofs.Known.{leader-known, sends-known, objects-known, live-known}
use Rattle.ring_records.proofs.Summaries.{floor-known}
use Rattle.ring_records.proofs.Latest.{latest_is, latest_same, one_latest}
use Rattle.node_core.specs.Brought.{told_by, brought, who_after, who_by}
use Rattle.node_core.specs.Core.{CoreView, Refuses}
use Rattle.node_core.specs.FreeCore.{CoreStandsFor, taking}
use Rattle.node_core.proofs.Retiring.{stood_count, known_next}

-- ---- the next history

-- what it knows once the input is accepted
next_known : (core : CoreView) (base : Base) (h : List Input) (x : Input) → core.known.credit ≤ core.known.sent → core.known.stands ≡ stood_count core.known.keys
    → CoreStandsFor core base h → IsAllowed core.me core.size h x → stepped core.me core.known x ≡ summary core.me (h ++ x ∷ [])
next_known core base h x within counted s a =
    ap (λ (k : Summary). stepped core.me k x) s.knows
    ∙ known_next core.me core.size h x a (subst (λ (k : Summary). k.credit ≤ k.sent) s.knows within) (subst (λ (k : Summary). k.stands ≡ stood_count k.keys) s.knows counted)

-- ---- what is refused

-- of an input behind the base, room is asked
room_asked : (me capacity : ℕ) (base : Base) (h : List Input) (x : Input) → base.inputs ≤ length h
    → no_room capacity (room_of base h) x (snapshot_len newest (summary me (h ++ x ∷ []))) ≡ shortage me capacity base h x
unfolding shortage
room_asked me capacity base h x within = sym (ap (λ b. cond b (no_room capacity (room_of base h) x (snapshot_len newest (summary me (h ++ x ∷ [])))) None) (le-leb base.inputs (length h) within))

pub refused-is : (core : CoreView) (base : Base) (h : List Input) (x : Input) (o : Option Refusal) → core.known.credit ≤ core.known.sent → core.known.stands ≡ stood_count core.known.keys
    → CoreStandsFor core base h → Refuses core x o → o ≡ refusal core.me core.size core.capacity base h x
unfolding by_rule.refusal
refused-is core base h x o within counted s (first, objects, e) =
    let same = objects-known core.me core.size h x first (subst (λ (k : Summary). Objects core.size k x first) s.knows objects) in
    e ∙ (go first same ∙ ap (λ p. or_else p (shortage core.me core.capacity base h x)) same)
  where
    go : (p : Option Refusal) → p ≡ objection core.me core.size h x
        → or_else p (no_room core.capacity core.room x (snapshot_len newest (stepped core.me core.known x))) ≡ or_else p (shortage core.me core.capacity base h x)
    go (Some why) is = refl
    go None is =
        let next = next_known core base h x within counted s (objection-allowed core.me core.size h x (sym is)) in
        (λ i. no_room core.capacity (s.room i) x (snapshot_len newest (next i))) ∙ room_asked core.me core.capacity base h x s.within

allowed : (core : CoreView) (base : Base) (h : List Input) (x : Input) → CoreStandsFor core base h → Refuses core x None → IsAllowed core.me core.size h x
allowed core base h x s (first, objects, e) =
    let same = objects-known core.me core.size h x first (subst (λ (k : Summary). Objects core.size k x first) s.knows objects) in
    objection-allowed core.me core.size h x (sym same ∙ (or_else-none _ _ (sym e)).0)

-- ---- what is brought

-- an Elected goes on exactly where a leader becomes known
token_told : (own bid below same : Bool) (known : Option Candidate) (key : Key) (c : Candidate) → same ≡ true
    → told_by (cond own (cond (bid && is_none known) (Some (Elected key c)) None) (cond below (Some (Token key c)) None)) ≡ option_map Decided (newly key known (or_else known (cond (same && own && bid) (Some c) None)))
token_told own bid below false known key c e = absurd cc
token_told true true below true None key c e = refl
token_told true true below true (Some d) key c e = refl
token_told true false below true None key c e = refl
token_told true false below true (Some d) key c e = refl
token_told false bid true true None key c e = refl
token_told false bid true true (Some d) key c e = refl
token_told false bid false true None key c e = refl
token_told false bid false true (Some d) key c e = refl

elected_told : (own same : Bool) (known : Option Candidate) (key : Key) (c : Candidate) → same ≡ true
    → told_by (cond (not own && is_none known) (Some (Elected key c)) None) ≡ option_map Decided (newly key known (or_else known (cond (same && not own) (Some c) None)))
elected_told own false known key c e = absurd cc
elected_told true true None key c e = refl
elected_told true true (Some d) key c e = refl
elected_told false true None key c e = refl
elected_told false true (Some d) key c e = refl

-- of a key that is not retired
live_tells : (me : ℕ) (h : List Input) (msg_no : ℕ) (msg : Msg) → is_retired h (key_of msg) ≡ false → told_by (passed_on me h msg) ≡ told me h (Take msg_no msg)
unfolding told passed_on makes_leader stood
live_tells me h msg_no (Token key c) live =
    ap (λ o. told_by (cond (eqb c.node me) (cond (is_bid o c.bid && is_none (leader me h key)) (Some (Elected key c)) None) (cond (is_below o me c) (Some (Token key c)) None))) (if_live-same h key (first_stand h key) live)
    ∙ (token_told (eqb c.node me) (is_bid (first_stand h key) c.bid) (is_below (first_stand h key) me c) (is_key key key) (leader me h key) key c (is_key-same key)
    ∙ ap (option_map Decided) (shown-decided me h msg_no (Token key c) key (leader me h key) (makes_leader me key h (Take 0 (Token key c))) refl live refl refl))
live_tells me h msg_no (Elected key c) live =
    elected_told (eqb c.node me) (is_key key key) (leader me h key) key c (is_key-same key)
    ∙ ap (option_map Decided) (shown-decided me h msg_no (Elected key c) key (leader me h key) (makes_leader me key h (Take 0 (Elected key c))) refl live refl refl)

-- of a retired key nothing is decided
retired_decides : (me : ℕ) (h : List Input) (msg_no : ℕ) (msg : Msg) → is_retired h (key_of msg) ≡ true → decided me h (Take msg_no msg) ≡ None
unfolding decided leader floor_for
retired_decides me h msg_no msg gone =
    let key = key_of msg in
    λ i. newly key (if_live-none h key (first_leader me h key) gone i)
    ((leader-push me h (Take msg_no msg) key refl ∙ if_live-none h key (or_else (first_leader me h key) (makes_leader me key h (Take msg_no msg))) gone) i)

take_tells : (me : ℕ) (h : List Input) (msg_no : ℕ) (msg : Msg) → told_by (emit me h (Take msg_no msg)) ≡ told me h (Take msg_no msg)
unfolding told emit
take_tells me h msg_no msg = go (is_retired h (key_of msg)) refl
  where
    go : (b : Bool) → is_retired h (key_of msg) ≡ b → told_by (emit me h (Take msg_no msg)) ≡ told me h (Take msg_no msg)
    go false live = ap told_by (if_live-same h (key_of msg) (passed_on me h msg) live) ∙ live_tells me h msg_no msg live
    go true gone = ap told_by (if_live-none h (key_of msg) (passed_on me h msg) gone) ∙ sym (ap (option_map Decided) (retired_decides me h msg_no msg gone))

pub brought-carry : (me : ℕ) (s : Summary) (x : Input) → (brought me s x).carry ≡ option_map (Carry s.sent) (sends me s x)
brought-carry me s (Stand key bid) = refl
brought-carry me s (Take msg_no msg) = refl
brought-carry me s (Acked upto) = refl
brought-carry me s (Retire group new) = refl

-- by what is known of h
pub carries : (me : ℕ) (known : Summary) (h : List Input) (x : Input) → known ≡ summary me h → (brought me known x).carry ≡ carry me h x
unfolding carry
carries me known h x knows =
    ap (λ (k : Summary). (brought me k x).carry) knows
    ∙ (brought-carry me (summary me h) x ∙ ap (option_map (Carry (length (sent me h)))) (sends-known me h x))

brought-told : (me : ℕ) (h : List Input) (x : Input) → (brought me (summary me h) x).notice ≡ told me h x
unfolding told
brought-told me h (Stand key bid) = refl
brought-told me h (Take msg_no msg) = ap told_by (sends-known me h (Take msg_no msg)) ∙ take_tells me h msg_no msg
brought-told me h (Acked upto) = refl
brought-told me h (Retire group new) = refl

pub tells : (me : ℕ) (known : Summary) (h : List Input) (x : Input) → known ≡ summary me h → (brought me known x).notice ≡ told me h x
tells me known h x knows = ap (λ (k : Summary). (brought me k x).notice) knows ∙ brought-told me h x

-- ---- what goes on

room-push : (base : Base) (h : List Input) (x : Input) → base.inputs ≤ length h → room_of base (h ++ x ∷ []) ≡ taking x (room_of base h)
room-push base h x within =
    let waits = ap (list_any is_retire) (drop-append-le base.inputs h (x ∷ []) within) ∙ (list_any-append is_retire (drop base.inputs h) (x ∷ []) ∙ ap (λ b. list_any is_retire (drop base.inputs h) || b) (or-false (is_retire x))) in
    λ i. record { layout = base.layout; epoch = base.epoch; taken = used-more base h x within i; waits = waits i }

pub goes_on : (core new : CoreView) (base : Base) (h : List Input) (x : Input) → new ≡ record core { known = stepped core.me core.known x; room = taking x core.room }
    → core.known.credit ≤ core.known.sent → core.known.stands ≡ stood_count core.known.keys → Refuses core x None → CoreStandsFor core base h → CoreStandsFor new base (h ++ x ∷ [])
goes_on core new base h x is within counted r s =
    let more = length-append h (x ∷ []) in
    subst (λ (c : CoreView). CoreStandsFor c base (h ++ x ∷ [])) (sym is) (record {
      knows = next_known core base h x within counted s (allowed core base h x s r);
      room = ap (taking x) s.room ∙ sym (room-push base h x s.within);
      within = omega (arith, s.within, more);
    })

-- ---- the next area

-- room behind an area that stands for all
room-none : (me epoch : ℕ) (h : List Input) → room_of (base_of newest epoch (summary me h)) h ≡ record { layout = newest; epoch = epoch; taken = snapshot_len newest (summary me h); waits = false }
unfolding used
room-none me epoch h =
    let none = drop_all (length h) h (omega arith) in
    let costs : costs_of (drop (length h) h) ≡ 0 = ap costs_of none in
    let taken : used (base_of newest epoch (summary me h)) h ≡ snapshot_len newest (summary me h) = omega (arith, costs) in
    λ i. record { layout = newest; epoch = epoch; taken = taken i; waits = list_any is_retire (none i) }

pub renewed : (core new : CoreView) (epoch : ℕ) (base : Base) (h : List Input)
    → new ≡ record core { room = record { layout = newest; epoch = epoch; taken = snapshot_len newest core.known; waits = false } }
    → CoreStandsFor core base h → CoreStandsFor new (base_of newest epoch (summary core.me h)) h
renewed core new epoch base h is s = subst (λ (c : CoreView). CoreStandsFor c (base_of newest epoch (summary core.me h)) h) (sym is) (record {
  knows = s.knows;
  room = (λ i. record { layout = newest; epoch = epoch; taken = snapshot_len newest (s.knows i); waits = false }) ∙ sym (room-none core.me epoch h);
  within = omega arith;
})

-- ---- who leads

leads : (me : ℕ) (known : Summary) (h : List Input) (key : Key) → known ≡ summary me h → leader_of (known_of known key) ≡ leader me h key
leads me known h key knows = ap (λ (k : Summary). leader_of (known_of k key)) knows ∙ leader-known me h key

pub who_known : (me : ℕ) (h : List Input) (key : Key) → who_by (summary me h) key ≡ who_after me h key
who_known me h key = λ i. cond (live-known me h key i) (Err (refused.Retired (floor-known h key.group i))) (Ok (leader-known me h key i))

pub leads_by : (me : ℕ) (known : Summary) (h : List Input) (key : Key) → known ≡ summary me h → who_by known key ≡ who_after me h key
leads_by me known h key knows = ap (λ (k : Summary). who_by k key) knows ∙ who_known me h key

pub leads_last : (me : ℕ) (known : Summary) (h : List Input) (group : List ℕ) (led : Option (ℕ × Candidate)) → known ≡ summary me h → IsLatest (leads_in known group) led
    → led ≡ latest me h group
leads_last me known h group led knows is =
    one_latest (λ term. leader me h (record { group = group; term = term })) led (latest me h group)
    (latest_same (leads_in known group) (λ term. leader me h (record { group = group; term = term })) (λ term. sym (leads me known h (record { group = group; term = term }) knows)) led is)
    (latest_is me h group)
