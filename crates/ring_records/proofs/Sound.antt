-- A node's summary is sound from the start, and stays so with each input to which it has no objection.
use Rattle.std.proofs.Common.{ℕ, ◌≡◌, ◌+◌, ◌-◌, ◌^◌, ◌<◌, ◌≤◌, Bool, true, false, cond, ◌&&◌, not, eqb, List, [], ◌∷◌, ◌++◌, length, drop, Option, Some, None, refl, sym, ap, ◌∙◌, subst, arith, inl, inr}
use Rattle.std.specs.FinMap as fin
use Rattle.std.specs.List.{cons_option, count_by, Contains}
use Rattle.std.specs.List.Sorted.{IsStrictlySortedBy}
use Rattle.std.specs.Cmp.{Equal-is, eq_by_cmp_equiv}
use Rattle.std.specs.Ordering.{eq_by_cmp}
use Rattle.std.specs.Prelude.{is_some, is_none, nat_le, nat_lt, unwrap_or}
use Rattle.std.specs.Str.{bytes_eq}
use Rattle.std.proofs.lemmas.Bool.{leb-false, ltb-false}
use Rattle.std.proofs.lemmas.List.{length-append, length-drop, get_or-drop}
use Rattle.std.proofs.lemmas.Option.{same_Some}
use Rattle.ring_records.specs.declared.candidate.Candidate.{Candidate}
use Rattle.ring_records.specs.declared.input.Input.{Input}
use Rattle.ring_records.specs.declared.input.Input.TheVariants.{Stand, Take, Acked, Retire}
use Rattle.ring_records.specs.declared.key.Key.{Key}
use Rattle.ring_records.specs.declared.key_state.KeyState.{KeyState}
use Rattle.ring_records.specs.declared.limits.TheConstants.{STANDS}
use Rattle.ring_records.specs.declared.msg.Msg.{Msg}
use Rattle.ring_records.specs.declared.msg.Msg.TheVariants.{Token, Elected}
use Rattle.ring_records.specs.declared.refusal.Refusal.TheVariants as refused
use Rattle.ring_records.specs.declared.summary.Summary.{Summary}
use Rattle.ring_records.specs.Allowed.{IsAllowed}
use Rattle.ring_records.specs.Objection.{where_so, already, stale, out_of_turn}
use Rattle.ring_records.specs.Emission.{is_below, sent}
use Rattle.ring_records.specs.FloorOf.{floor_of, is_below_floor, IsLive}
use Rattle.ring_records.specs.History.{taken, credit, stands}
use Rattle.ring_records.specs.Known.{passed, shown, stood_of, leader_of, known_of, retired_in, sends, heard, drops, stepped, Objects}
use Rattle.ring_records.specs.KeyOrder.{key_cmp, group_cmp}
use Rattle.ring_records.specs.Leader.{is_bid, term_of}
use Rattle.ring_records.specs.Lists.{or_else, found_after, EachAfter}
use Rattle.ring_records.specs.Message.{key_of, candidate_of}
use Rattle.ring_records.specs.Order.{is_key}
use Rattle.ring_records.specs.Record.{HasRecord, IsKeyInRange, IsCandidateInRange}
use Rattle.ring_records.specs.Snapshot.{IsCandidateOf, IsStateOf, IsMessageOf, IsSound, has_stood}
use Rattle.ring_records.specs.Summary.{key_states, floors_in, summary, empty}
use Rattle.ring_records.proofs.Admission.{or_else-none, where_so-none, allowed-free}
use Rattle.ring_records.proofs.Compare.{get-put}
use Rattle.ring_records.proofs.Keys.{is_key-true}
use Rattle.ring_records.proofs.FloorsInOrder.{groups_total, groups_exact}
use Rattle.ring_records.proofs.Known.{objects-of}
use Rattle.ring_records.proofs.Lists.{along, none≢some, Contains-option_cases, EachAfter-push}
use Rattle.ring_records.proofs.RetireStep.{alike, kept-and-dropped, stepped-known}
use Rattle.ring_records.proofs.Standing.{stand-counted, take-counted}
use Rattle.ring_records.proofs.StatesInOrder.{values-keyed}
use Rattle.ring_records.proofs.Summaries.{same-group}

pub sound-empty : (n : ℕ) → IsSound n empty
unfolding IsStrictlySortedBy
sound-empty n = record {
  inputs = omega arith;
  acts = omega arith;
  sent = omega arith;
  credit = omega arith;
  window = refl;
  few = omega arith;
  stands = sym (ap (count_by has_stood) (values-keyed [] tt));
  states = λ key state e. none≢some state (sym (fin.get-empty key_cmp key) ∙ e);
  messages = λ msg there. let below = there.1 in absurd (omega arith);
  floors = λ group floor e. none≢some floor (sym (fin.get-empty group_cmp group) ∙ e);
  live = λ key state e. none≢some state (sym (fin.get-empty key_cmp key) ∙ e);
}

-- ---- what one input sends, and what it makes known of its key

-- the message that is passed on names what was taken
passed-of : (n me : ℕ) (stood : Option ℕ) (leader : Option Candidate) (msg on : Msg) → IsMessageOf n msg → passed me stood leader msg ≡ Some on → IsMessageOf n on
unfolding passed
passed-of n me stood leader (Token key c) on of e = go (eqb c.node me) (is_bid stood c.bid && is_none leader) (is_below stood me c) e
  where
    go : (own home on_way : Bool) → cond own (cond home (Some (Elected key c)) None) (cond on_way (Some (Token key c)) None) ≡ Some on → IsMessageOf n on
    go true true w e = subst (IsMessageOf n) (same_Some (Elected key c) on e) (record { named = of.named; candidate = of.candidate })
    go true false w e = none≢some on e
    go false h true e = subst (IsMessageOf n) (same_Some (Token key c) on e) of
    go false h false e = none≢some on e
passed-of n me stood leader (Elected key c) on of e = go (not (eqb c.node me) && is_none leader) e
  where
    go : (b : Bool) → cond b (Some (Elected key c)) None ≡ Some on → IsMessageOf n on
    go true e = subst (IsMessageOf n) (same_Some (Elected key c) on e) of
    go false e = none≢some on e

shown-of : (n me : ℕ) (stood : Option ℕ) (msg : Msg) (c : Candidate) → IsMessageOf n msg → shown me stood msg ≡ Some c → IsCandidateOf n c
unfolding shown
shown-of n me stood (Token key d) c of e = go (eqb d.node me && is_bid stood d.bid) e
  where
    go : (b : Bool) → cond b (Some d) None ≡ Some c → IsCandidateOf n c
    go true e = subst (IsCandidateOf n) (same_Some d c e) of.candidate
    go false e = none≢some c e
shown-of n me stood (Elected key d) c of e = go (not (eqb d.node me)) e
  where
    go : (b : Bool) → cond b (Some d) None ≡ Some c → IsCandidateOf n c
    go true e = subst (IsCandidateOf n) (same_Some d c e) of.candidate
    go false e = none≢some c e

either-of : (n : ℕ) (a b : Option Candidate) (c : Candidate) → ((c : Candidate) → a ≡ Some c → IsCandidateOf n c) → ((c : Candidate) → b ≡ Some c → IsCandidateOf n c)
    → or_else a b ≡ Some c → IsCandidateOf n c
either-of n None b c f g e = g c e
either-of n (Some d) b c f g e = f c e

bid-of : (n : ℕ) (key : Key) (o : Option KeyState) (bid : ℕ) → ((s : KeyState) → o ≡ Some s → IsStateOf n key s) → stood_of o ≡ Some bid → bid ≤ 999999999
bid-of n key None bid known e = none≢some bid e
bid-of n key (Some s) bid known e = (known s refl).bid bid e

led-of : (n : ℕ) (key : Key) (o : Option KeyState) (c : Candidate) → ((s : KeyState) → o ≡ Some s → IsStateOf n key s) → leader_of o ≡ Some c → IsCandidateOf n c
led-of n key None c known e = none≢some c e
led-of n key (Some s) c known e = (known s refl).led c e

-- the states once one key is put
states-put : (n : ℕ) (m : fin.FinMap key_cmp KeyState) (key : Key) (v : KeyState) → ((k : Key) (s : KeyState) → fin.get m k ≡ Some s → IsStateOf n k s) → IsStateOf n key v
    → (k : Key) (s : KeyState) → fin.get (fin.insert m key v) k ≡ Some s → IsStateOf n k s
states-put n m key v known of k s e = go (is_key key k) refl (sym (get-put m key v k) ∙ e)
  where
    go : (b : Bool) → is_key key k ≡ b → cond b (Some v) (fin.get m k) ≡ Some s → IsStateOf n k s
    go true same f = subst (λ (p : Key × KeyState). IsStateOf n p.0 p.1) (λ i. (is_key-true key k same i, same_Some v s f i)) of
    go false other f = known k s f

-- and none is below a floor
live-put : (m : fin.FinMap key_cmp KeyState) (floors : fin.FinMap group_cmp ℕ) (key : Key) (v : KeyState) → ((k : Key) (s : KeyState) → fin.get m k ≡ Some s → IsLive floors k) → IsLive floors key
    → (k : Key) (s : KeyState) → fin.get (fin.insert m key v) k ≡ Some s → IsLive floors k
live-put m floors key v known of k s e = go (is_key key k) refl (sym (get-put m key v k) ∙ e)
  where
    go : (b : Bool) → is_key key k ≡ b → cond b (Some v) (fin.get m k) ≡ Some s → IsLive floors k
    go true same f = subst (IsLive floors) (is_key-true key k same) of
    go false other f = known k s f

messages-more : (n : ℕ) (window : List Msg) (on : Option Msg) → ((msg : Msg) → Contains window msg → IsMessageOf n msg) → ((msg : Msg) → on ≡ Some msg → IsMessageOf n msg)
    → (msg : Msg) → Contains (window ++ cons_option on []) msg → IsMessageOf n msg
messages-more n window on old new msg there = elim (Contains-option_cases window on msg there) [ inl h ↦ old msg h | inr e ↦ new msg e ]

Contains-drop : {A : Type 0} (xs : List A) (n : ℕ) (x : A) → Contains (drop n xs) x → Contains xs x
Contains-drop xs n x (k, below, e) = let left = length-drop n xs in (n + k, omega arith, sym (get_or-drop n xs k x) ∙ e)

-- ---- one more input

nothing_else : (o : Option Msg) → length (cons_option o []) ≤ 1
nothing_else None = omega arith
nothing_else (Some msg) = omega arith

unknown : (o : Option KeyState) → is_some o ≡ false → o ≡ None
unknown None e = refl
unknown (Some s) e = absurd cc

module _ (n me : ℕ) (s : Summary) (sound : IsSound n s) where
  stand-sound : (key : Key) (bid : ℕ) → IsKeyInRange key → bid ≤ 999999999 → 1 ≤ me → me ≤ 16 → me ≤ n → Objects n s (Stand key bid) None → IsSound n (stepped me s (Stand key bid))
  stand-sound key bid named low from to inside (led, latest, free) =
      let live = or_else-none (retired_in s key) _ (sym free) in
      let a = or_else-none _ _ live.1 in
      let b = or_else-none (already (stood_of (known_of s key))) _ a.0 in
      let c = or_else-none (stale key.term led) _ a.1 in
      let d = or_else-none (where_so (nat_le STANDS s.stands) refused.Limit) _ c.1 in
      let new : known_of s key ≡ None = unknown (known_of s key) (where_so-none _ _ b.1) in
      let few : s.stands < STANDS = leb-false STANDS s.stands (where_so-none _ _ d.0) in
      let room : s.inputs < 2 ^ 56 = leb-false (2 ^ 56) s.inputs (where_so-none _ _ d.1) in
      let msg : Msg = Token key (record { bid = bid; node = me }) in
      let own : IsMessageOf n msg = record { named = named; candidate = record { in_range = record { bid = low; from = from; to = to }; in_ring = inside } } in
      let longer = length-append s.window (msg ∷ []) in
      let fits : s.credit ≤ s.sent = sound.credit in
      let acts : s.taken + s.stands ≤ s.inputs = sound.acts in
      let within : s.sent ≤ s.inputs = sound.sent in
      let window : length s.window ≡ s.sent - s.credit = sound.window in
      record {
        inputs = omega arith;
        acts = omega arith;
        sent = omega arith;
        credit = omega arith;
        window = omega arith;
        few = omega arith;
        stands = stand-counted me s key bid new sound.stands;
        states = states-put n s.keys key (record { key = key; stood = Some bid; leader = leader_of (known_of s key) }) sound.states (record {
          own = refl;
          named = named;
          bid = λ b e. subst (λ (k : ℕ). k ≤ 999999999) (same_Some bid b e) low;
          led = λ c e. led-of n key (known_of s key) c (sound.states key) e;
        });
        messages = messages-more n s.window (Some msg) sound.messages (λ other e. subst (IsMessageOf n) (same_Some msg other e) own);
        floors = sound.floors;
        live = live-put s.keys s.floors key _ sound.live (where_so-none _ _ live.0);
      }

  -- a message below a floor changes no state, and is not sent on
  heard-states : (below : Bool) (msg : Msg) → IsMessageOf n msg → (k : Key) (state : KeyState) → fin.get (cond below s.keys (fin.insert s.keys (key_of msg) (heard me s msg))) k ≡ Some state
      → IsStateOf n k state
  heard-states true msg of = sound.states
  heard-states false msg of =
      let key : Key = key_of msg in
      let stood = stood_of (known_of s key) in
      let led = leader_of (known_of s key) in
      states-put n s.keys key (heard me s msg) sound.states (record {
        own = refl;
        named = of.named;
        bid = λ b e. bid-of n key (known_of s key) b (sound.states key) e;
        led = λ c e. either-of n led (shown me stood msg) c (λ c e. led-of n key (known_of s key) c (sound.states key) e) (λ c e. shown-of n me stood msg c of e) e;
      })

  heard-live : (below : Bool) (msg : Msg) → is_below_floor s.floors (key_of msg) ≡ below → (k : Key) (state : KeyState)
      → fin.get (cond below s.keys (fin.insert s.keys (key_of msg) (heard me s msg))) k ≡ Some state → IsLive s.floors k
  heard-live true msg is = sound.live
  heard-live false msg is = live-put s.keys s.floors (key_of msg) (heard me s msg) sound.live is

  sends-of : (below : Bool) (msg on : Msg) → IsMessageOf n msg → cond below None (passed me (stood_of (known_of s (key_of msg))) (leader_of (known_of s (key_of msg))) msg) ≡ Some on → IsMessageOf n on
  sends-of true msg on of e = none≢some on e
  sends-of false msg on of e = passed-of n me (stood_of (known_of s (key_of msg))) (leader_of (known_of s (key_of msg))) msg on of e

  take-sound : (msg_no : ℕ) (msg : Msg) → IsKeyInRange (key_of msg) → IsCandidateInRange (candidate_of msg) → Objects n s (Take msg_no msg) None → IsSound n (stepped me s (Take msg_no msg))
  take-sound msg_no msg named range free =
      let a = or_else-none (where_so (nat_lt n (candidate_of msg).node) refused.BadNumber) _ (sym free) in
      let b = or_else-none (out_of_turn s.taken msg_no) _ a.1 in
      let room : s.inputs < 2 ^ 56 = leb-false (2 ^ 56) s.inputs (where_so-none _ _ b.1) in
      let key : Key = key_of msg in
      let of : IsMessageOf n msg = record { named = named; candidate = record { in_range = range; in_ring = ltb-false n (candidate_of msg).node (where_so-none _ _ a.0) } } in
      let on = sends me s (Take msg_no msg) in
      let longer = length-append s.window (cons_option on []) in
      let fits : s.credit ≤ s.sent = sound.credit in
      let acts : s.taken + s.stands ≤ s.inputs = sound.acts in
      let within : s.sent ≤ s.inputs = sound.sent in
      let window : length s.window ≡ s.sent - s.credit = sound.window in
      let one = nothing_else on in
      record {
        inputs = omega arith;
        acts = omega arith;
        sent = omega arith;
        credit = omega arith;
        window = omega arith;
        few = sound.few;
        stands = take-counted me s msg_no msg sound.stands;
        states = heard-states (is_below_floor s.floors key) msg of;
        messages = messages-more n s.window on sound.messages (λ other e. sends-of (is_below_floor s.floors key) msg other of e);
        floors = sound.floors;
        live = heard-live (is_below_floor s.floors key) msg refl;
      }

  acked-sound : (upto : ℕ) → Objects n s (Acked upto) None → IsSound n (stepped me s (Acked upto))
  acked-sound upto free =
      let a = or_else-none (where_so (nat_le upto s.credit) (refused.Old s.credit)) _ (sym free) in
      let b = or_else-none (where_so (nat_lt s.sent upto) (refused.AckAhead s.sent)) _ a.1 in
      let above : s.credit < upto = leb-false upto s.credit (where_so-none _ _ a.0) in
      let below : upto ≤ s.sent = ltb-false s.sent upto (where_so-none _ _ b.0) in
      let room : s.inputs < 2 ^ 56 = leb-false (2 ^ 56) s.inputs (where_so-none _ _ b.1) in
      let left = length-drop (upto - s.credit) s.window in
      let acts : s.taken + s.stands ≤ s.inputs = sound.acts in
      let within : s.sent ≤ s.inputs = sound.sent in
      let window : length s.window ≡ s.sent - s.credit = sound.window in
      record {
        inputs = omega arith;
        acts = omega arith;
        sent = omega arith;
        credit = below;
        window = omega arith;
        few = sound.few;
        stands = sound.stands;
        states = sound.states;
        messages = λ msg there. sound.messages msg (Contains-drop s.window (upto - s.credit) msg there);
        floors = sound.floors;
        live = sound.live;
      }

  -- what is left of the states is what was there, and not dropped
  found-kept : (p : Key → Bool) (key : Key) (state : KeyState) → fin.get (fin.retain_keys s.keys p) key ≡ Some state → (p key ≡ true) × (fin.get s.keys key ≡ Some state)
  found-kept p key state e = go (p key) refl (sym (fin.get-retain_keys s.keys p key (alike p key)) ∙ e)
    where
      go : (b : Bool) → p key ≡ b → cond b (fin.get s.keys key) None ≡ Some state → (p key ≡ true) × (fin.get s.keys key ≡ Some state)
      go true t f = (t, f)
      go false t f = none≢some state f

  -- a key that a new floor does not drop is not below it
  retire-live : (group : List ℕ) (new : ℕ) (key : Key) → IsLive s.floors key → not (drops group new key) ≡ true → IsLive (fin.insert s.floors group new) key
  retire-live group new key live kept =
      ap (λ (o : Option ℕ). nat_lt key.term (unwrap_or o 0)) (fin.get-insert groups_total s.floors group new key.group)
      ∙ go (eq_by_cmp group_cmp key.group group) (sym (same-group key.group group ∙ (eq_by_cmp_equiv groups_total).symm group key.group))
    where
      below : (b : Bool) → bytes_eq key.group group ≡ b → b ≡ true → nat_lt key.term new ≡ false
      below b is e = at (nat_lt key.term new) refl
        where
          at : (c : Bool) → nat_lt key.term new ≡ c → c ≡ false
          at true less = absurd (let dropped : not (drops group new key) ≡ false = λ i. not ((is ∙ e) i && less i) in let both = sym kept ∙ dropped in cc)
          at false less = refl

      go : (b : Bool) → b ≡ bytes_eq key.group group → nat_lt key.term (unwrap_or (cond b (Some new) (fin.get s.floors key.group)) 0) ≡ false
      go true is = below true (sym is) refl
      go false is = live

  retire-sound : (group : List ℕ) (new : ℕ) → IsKeyInRange (record { group = group; term = new }) → Objects n s (Retire group new) None → IsSound n (stepped me s (Retire group new))
  retire-sound group new named (led, is, free) =
      let a = or_else-none (where_so (nat_le new (floor_of s.floors group)) (refused.Retired (floor_of s.floors group))) _ (sym free) in
      let b = or_else-none (where_so (nat_lt (term_of led) new) refused.Undecided) _ a.1 in
      let room : s.inputs < 2 ^ 56 = leb-false (2 ^ 56) s.inputs (where_so-none _ _ b.1) in
      let parts = kept-and-dropped (λ t. cond (has_stood t) 1 0) s.keys (drops group new) in
      let stands : s.stands ≡ count_by has_stood (fin.values s.keys) = sound.stands in
      let fits : s.credit ≤ s.sent = sound.credit in
      let acts : s.taken + s.stands ≤ s.inputs = sound.acts in
      let within : s.sent ≤ s.inputs = sound.sent in
      let few : s.stands < 2 ^ 16 = sound.few in
      record {
        inputs = omega arith;
        acts = omega arith;
        sent = omega arith;
        credit = fits;
        window = sound.window;
        few = omega arith;
        stands = omega arith;
        states = λ key state e. sound.states key state (found-kept (λ k. not (drops group new k)) key state e).1;
        messages = sound.messages;
        floors = λ g f e. floor-put g f (eq_by_cmp group_cmp g group) refl (sym (fin.get-insert groups_total s.floors group new g) ∙ e);
        live = λ key state e. let found = found-kept (λ k. not (drops group new k)) key state e in retire-live group new key (sound.live key state found.1) found.0;
      }
    where
      floor-put : (g : List ℕ) (f : ℕ) (b : Bool) → eq_by_cmp group_cmp g group ≡ b → cond (eq_by_cmp group_cmp g group) (Some new) (fin.get s.floors g) ≡ Some f
          → IsKeyInRange (record { group = g; term = f })
      floor-put g f true is e =
          let same : group ≡ g = sym (groups_exact g group ((Equal-is (group_cmp g group)).0 is)) in
          subst (λ (k : Key). IsKeyInRange k) (λ i. record { group = same i; term = same_Some new f (sym (ap (λ c. cond c (Some new) (fin.get s.floors g)) is) ∙ e) i }) named
      floor-put g f false is e = sound.floors g f (sym (ap (λ c. cond c (Some new) (fin.get s.floors g)) is) ∙ e)

pub sound-stepped : (me n : ℕ) (s : Summary) (x : Input) → 1 ≤ me → me ≤ 16 → me ≤ n → HasRecord x → IsSound n s → Objects n s x None → IsSound n (stepped me s x)
unfolding HasRecord
sound-stepped me n s (Stand key bid) from to inside has sound free = stand-sound n me s sound key bid has.0 has.1 from to inside free
sound-stepped me n s (Take msg_no msg) from to inside has sound free = take-sound n me s sound msg_no msg has.1 has.2 free
sound-stepped me n s (Acked upto) from to inside has sound free = acked-sound n me s sound upto free
sound-stepped me n s (Retire group new) from to inside has sound free = retire-sound n me s sound group new has free

-- ---- the summary of a history

pub summary-none : (me : ℕ) → summary me [] ≡ empty
unfolding key_states floors_in taken credit sent stands found_after
summary-none me = refl

abbrev pub IsGiven : ℕ → ℕ → List Input → Input → Type 0
IsGiven me n h x = IsAllowed me n h x × HasRecord x

-- what is known is sound, and each input was allowed
abbrev IsSoFar : ℕ → ℕ → List Input → Type 0
IsSoFar me n h = IsSound n (summary me h) × EachAfter (IsAllowed me n) [] h

sound-next : (me n : ℕ) → 1 ≤ me → me ≤ 16 → me ≤ n → (h : List Input) (x : Input) → IsGiven me n h x → IsSoFar me n h → IsSoFar me n (h ++ x ∷ [])
sound-next me n from to inside h x given so_far =
    let free : Objects n (summary me h) x None = subst (Objects n (summary me h) x) (allowed-free me n h x given.0) (objects-of me n h x) in
    let next = sound-stepped me n (summary me h) x from to inside given.1 so_far.0 free in
    (subst (IsSound n) (stepped-known me n h x so_far.1 given.0) next, EachAfter-push (IsAllowed me n) [] h x so_far.1 given.0)

pub sound-history : (me n : ℕ) (h : List Input) → 1 ≤ me → me ≤ 16 → me ≤ n → EachAfter (IsGiven me n) [] h → IsSound n (summary me h)
unfolding EachAfter
sound-history me n h from to inside each =
    (along (IsGiven me n) (IsSoFar me n) (sound-next me n from to inside) [] h each (subst (IsSound n) (sym (summary-none me)) (sound-empty n), tt)).0
