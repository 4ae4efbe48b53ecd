-- What a core knows, once it has accepted an input.
use Rattle.std.proofs.Common.{ℕ, ◌≡◌, ◌+◌, ◌-◌, ◌<◌, ◌≤◌, ◌^◌, Result, Ok, Err, Bool, true, false, not, cond, List, [], ◌++◌, map as list_map, length, Option, Some, None, sym, ap, ◌∙◌, subst, arith, length-append, length-drop}
use Rattle.std.specs.FinMap as map
use Rattle.std.specs.Prelude.{OnOk}
use Rattle.std.specs.List.{cons_option, count_by}
use Rattle.ring_records.specs.declared.input.Input.{Input}
use Rattle.ring_records.specs.declared.summary.Summary.{Summary}
use Rattle.ring_records.specs.declared.input.Input.TheVariants.{Stand, Take, Acked, Retire}
use Rattle.ring_records.specs.declared.key.Key.{Key}
use Rattle.ring_records.specs.declared.msg.Msg.{Msg}
use Rattle.ring_records.specs.declared.msg.Msg.TheVariants.{Token}
use Rattle.ring_records.specs.Record.{HasRecord}
use Rattle.ring_records.proofs.Sound.{sound-stepped}
use Rattle.ring_records.specs.FloorOf.{is_below_floor}
use Rattle.ring_records.specs.KeyOrder.{key_cmp}
use Rattle.ring_records.specs.KeyStates.{keyed}
use Rattle.ring_records.specs.Known.{Objects, drops, known_of, passed, shown, stood_of, leader_of, sends, stepped, heard as known_heard}
use Rattle.ring_records.specs.Lists.{or_else}
use Rattle.ring_records.specs.Message.{key_of}
use Rattle.ring_records.specs.Snapshot.{has_stood}
use Rattle.cr_automaton.specs.declared.ballot.Ballot.{Ballot}
use Rattle.neighbour_link.specs.Outlink.{LinkView, sent_count}
use Rattle.groups_terms.specs.Table.{TableView, ballot_at, heard, heard_by, passes_on, state_at, states_in}
use Rattle.groups_terms.proofs.States.{states-put, stood_in, leader_in}
use Rattle.node_core.specs.Kept.{known_with, sent_on, credited_to, hears, hearing, IsFree, IsCounted}

count_on : (link : LinkView) (on : Option Msg) → sent_count (sent_on on link) ≡ sent_count link + length (cons_option on [])
count_on link on = let more = length-append link.window (cons_option on []) in omega arith

pub stand-steps : (inputs expected : ℕ) (t u : TableView) (old new : LinkView) (key : Key) (bid : ℕ)
    → (u.ballots ≡ map.insert t.ballots key (record { stood = Some bid; leader = (ballot_at t key).leader })) × (u.stands ≡ t.stands + 1) × (u.floors ≡ t.floors)
    → new ≡ sent_on (Some (Token key (record { bid = bid; node = t.me }))) old → known_with (inputs + 1) u new expected ≡ stepped t.me (known_with inputs t old expected) (Stand key bid)
stand-steps inputs expected t u old new key bid put on = λ i. record {
  inputs = inputs + 1;
  taken = expected;
  credit = (on i).credited;
  sent = (ap sent_count on ∙ count_on old (Some (Token key (record { bid = bid; node = t.me })))) i;
  stands = put.1 i;
  keys = (states-put t u key (record { stood = Some bid; leader = (ballot_at t key).leader }) put.0 ∙ (λ j. map.insert (states_in t) key (record { key = key; stood = Some bid; leader = sym (leader_in t key) j }))) i;
  window = (on i).window;
  floors = put.2 i;
}

-- what is known of the key of a message once it is heard, and what is sent on, told by the states
pub heard-state : (inputs expected : ℕ) (t : TableView) (link : LinkView) (msg : Msg)
    → state_at (key_of msg, heard t.me (ballot_at t (key_of msg)) msg) ≡ known_heard t.me (known_with inputs t link expected) msg
heard-state inputs expected t link msg = λ i. record {
  key = key_of msg;
  stood = sym (stood_in t (key_of msg)) i;
  leader = or_else (sym (leader_in t (key_of msg)) i) (shown t.me (sym (stood_in t (key_of msg)) i) msg);
}

pub passes-state : (inputs expected : ℕ) (t : TableView) (link : LinkView) (msg : Msg)
    → passes_on t msg ≡ passed t.me (stood_of (known_of (known_with inputs t link expected) (key_of msg))) (leader_of (known_of (known_with inputs t link expected) (key_of msg))) msg
passes-state inputs expected t link msg = λ i. passed t.me (sym (stood_in t (key_of msg)) i) (sym (leader_in t (key_of msg)) i) msg

passes : (t : TableView) (msg : Msg)
    → hears t msg ≡ cond (is_below_floor t.floors (key_of msg)) None (passed t.me (stood_of (map.get (states_in t) (key_of msg))) (leader_of (map.get (states_in t) (key_of msg))) msg)
passes t msg = λ i. cond (is_below_floor t.floors (key_of msg)) None (passed t.me (sym (stood_in t (key_of msg)) i) (sym (leader_in t (key_of msg)) i) msg)

-- what is known of the keys once a message is heard, below a floor or not
keys-heard : (below : Bool) (t u : TableView) (msg : Msg) → u.ballots ≡ cond below t.ballots (heard_by t msg)
    → states_in u ≡ cond below (states_in t) (map.insert (states_in t) (key_of msg) (record {
      key = key_of msg;
      stood = stood_of (map.get (states_in t) (key_of msg));
      leader = or_else (leader_of (map.get (states_in t) (key_of msg))) (shown t.me (stood_of (map.get (states_in t) (key_of msg))) msg);
    }))
keys-heard true t u msg put = ap (λ (m : map.FinMap key_cmp Ballot). keyed (list_map state_at (map.entries m))) put
keys-heard false t u msg put =
    states-put t u (key_of msg) (heard t.me (ballot_at t (key_of msg)) msg) put
    ∙ (λ j. map.insert (states_in t) (key_of msg) (record {
      key = key_of msg;
      stood = sym (stood_in t (key_of msg)) j;
      leader = or_else (sym (leader_in t (key_of msg)) j) (shown t.me (sym (stood_in t (key_of msg)) j) msg);
    }))

pub take-sends : (inputs expected msg_no : ℕ) (t : TableView) (link : LinkView) (msg : Msg) → hears t msg ≡ sends t.me (known_with inputs t link expected) (Take msg_no msg)
take-sends inputs expected msg_no t link msg = passes t msg

pub take-steps : (inputs expected msg_no : ℕ) (t u : TableView) (old new : LinkView) (msg : Msg)
    → (u.ballots ≡ hearing t msg) × (u.stands ≡ t.stands) × (u.floors ≡ t.floors)
    → new ≡ sent_on (hears t msg) old → known_with (inputs + 1) u new (expected + 1) ≡ stepped t.me (known_with inputs t old expected) (Take msg_no msg)
take-steps inputs expected msg_no t u old new msg put on = λ i. record {
  inputs = inputs + 1;
  taken = expected + 1;
  credit = (on i).credited;
  sent = (ap sent_count on ∙ (count_on old (hears t msg) ∙ ap (λ o. sent_count old + length (cons_option o [])) (passes t msg))) i;
  stands = put.1 i;
  keys = keys-heard (is_below_floor t.floors (key_of msg)) t u msg put.0 i;
  window = (ap (λ (l : LinkView). l.window) on ∙ ap (λ o. old.window ++ cons_option o []) (passes t msg)) i;
  floors = put.2 i;
}

pub acked-steps : (inputs expected : ℕ) (t : TableView) (old new : LinkView) (upto : ℕ) → old.credited < upto → upto ≤ sent_count old → new ≡ credited_to upto old
    → known_with (inputs + 1) t new expected ≡ stepped t.me (known_with inputs t old expected) (Acked upto)
acked-steps inputs expected t old new upto above within on = λ i. record {
  inputs = inputs + 1;
  taken = expected;
  credit = (on i).credited;
  sent = (ap sent_count on ∙ count) i;
  stands = t.stands;
  keys = states_in t;
  window = (on i).window;
  floors = t.floors;
}
  where
    count : sent_count (credited_to upto old) ≡ sent_count old
    count = let rest = length-drop (upto - old.credited) old.window in omega arith

pub retire-steps : (inputs expected : ℕ) (t u : TableView) (link : LinkView) (group : List ℕ) (new : ℕ)
    → states_in u ≡ map.retain_keys (states_in t) (λ key. not (drops group new key))
    → u.stands ≡ t.stands - count_by has_stood (map.values (map.retain_keys (states_in t) (drops group new))) → u.floors ≡ map.insert t.floors group new
    → known_with (inputs + 1) u link expected ≡ stepped t.me (known_with inputs t link expected) (Retire group new)
retire-steps inputs expected t u link group new keys stands floors = λ i. record {
  inputs = inputs + 1;
  taken = expected;
  credit = link.credited;
  sent = sent_count link;
  stands = stands i;
  keys = keys i;
  window = link.window;
  floors = floors i;
}

pub on_both : {T E : Type 0} {P Q R : Type 0} (r : Result T E) → OnOk r P → OnOk r Q → (P → Q → R) → OnOk r R
on_both (Ok x) p q f = f p q
on_both (Err e) p q f = tt

pub on_three : {T E : Type 0} {P Q R S : Type 0} (r : Result T E) → OnOk r P → OnOk r Q → OnOk r R → (P → Q → R → S) → OnOk r S
on_three (Ok x) p q r f = f p q r
on_three (Err e) p q r f = tt

-- ---- the counts stay in their bounds

one_at_most : (on : Option Msg) → length (cons_option on []) ≤ 1
one_at_most None = omega arith
one_at_most (Some msg) = omega arith

less : (n d : ℕ) → n < 2 ^ 16 → n - d < 2 ^ 16
less n d few = omega (arith, few)

-- the counts alone
record AreFew (s : Summary) : Type 0 where
  sent_few : s.sent ≤ s.inputs
  taken_few : s.taken ≤ s.inputs
  stands_few : s.stands < 2 ^ 16

few-steps : (n inputs expected : ℕ) (t : TableView) (link : LinkView) (x : Input) → IsFree t link x → IsCounted t.me n (known_with inputs t link expected)
    → AreFew (stepped t.me (known_with inputs t link expected) x)
few-steps n inputs expected t link (Stand key bid) free c =
    let sent = c.sent_few in
    let taken = c.taken_few in
    let few = free.1 in
    record { sent_few = omega arith; taken_few = omega arith; stands_few = omega arith }
few-steps n inputs expected t link (Take msg_no msg) free c =
    let sent = c.sent_few in
    let taken = c.taken_few in
    let one = one_at_most (sends t.me (known_with inputs t link expected) (Take msg_no msg)) in
    record { sent_few = omega arith; taken_few = omega arith; stands_few = c.stands_few }
few-steps n inputs expected t link (Acked upto) free c =
    let sent = c.sent_few in
    let taken = c.taken_few in
    record { sent_few = omega arith; taken_few = omega arith; stands_few = c.stands_few }
few-steps n inputs expected t link (Retire group new) free c =
    let sent = c.sent_few in
    let taken = c.taken_few in
    record { sent_few = omega arith; taken_few = omega arith; stands_few = less t.stands _ c.stands_few }

counted-steps : (n inputs expected : ℕ) (t : TableView) (link : LinkView) (x : Input) → HasRecord x → Objects n (known_with inputs t link expected) x None → IsFree t link x
    → IsCounted t.me n (known_with inputs t link expected) → IsCounted t.me n (stepped t.me (known_with inputs t link expected) x)
counted-steps n inputs expected t link x has none free c =
    let few = few-steps n inputs expected t link x free c in
    record {
      sent_few = few.sent_few;
      taken_few = few.taken_few;
      stands_few = few.stands_few;
      sound = λ here. sound-stepped t.me n (known_with inputs t link expected) x here.from here.to here.in_ring has (c.sound here) none;
    }

-- room was made on the link first, which leaves it as it was
pub counted_next : (me n inputs expected : ℕ) (t : TableView) (old was : LinkView) (x : Input) (new : Summary) → me ≡ t.me → was ≡ old → HasRecord x
    → Objects n (known_with inputs t old expected) x None → IsFree t was x
    → IsCounted t.me n (known_with inputs t old expected) → new ≡ stepped t.me (known_with inputs t was expected) x → IsCounted me n new
counted_next me n inputs expected t old was x new me_is same has none free c e =
    let on_link = ap (λ (l : LinkView). stepped t.me (known_with inputs t l expected) x) same in
    subst (λ (k : ℕ). IsCounted k n new) (sym me_is)
    (subst (IsCounted t.me n) (sym (e ∙ on_link)) (counted-steps n inputs expected t old x has none (subst (λ (l : LinkView). IsFree t l x) same free) c))
