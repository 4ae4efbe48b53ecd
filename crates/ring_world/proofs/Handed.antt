-- What a neighbour may release, and that it brings what is asked.
use Rattle.std.proofs.Common.{ℕ, ◌≡◌, ◌≤◌, true, List, [], ◌∷◌, ◌++◌, length, take, Option, Some, None, leb, eqb, sym, ap, ◌∙◌, arith}
use Rattle.std.proofs.lemmas.Bool.{and_parts, and_from, eqb-true, leb-true}
use Rattle.std.proofs.lemmas.Bool.Decides.{nat_tests}
use Rattle.std.proofs.lemmas.List.Elements.{Contains-push}
use Rattle.ring_records.specs.declared.candidate.Candidate.{Candidate}
use Rattle.ring_records.specs.declared.msg.Msg.{Msg}
use Rattle.ring_records.specs.declared.msg.Msg.TheVariants.{Token, Elected}
use Rattle.ring_records.specs.declared.packet.Packet.{Packet}
use Rattle.ring_records.specs.declared.packet.Packet.TheVariants.{Carry, Credit}
use Rattle.ring_records.specs.declared.request.Request.{Request}
use Rattle.ring_records.specs.declared.request.Request.TheVariants as ask
use Rattle.ring_records.specs.Answer.{PacketRests}
use Rattle.ring_records.specs.History.{taken}
use Rattle.ring_records.specs.Order.{is_key}
use Rattle.ring_world.specs.Ring.{is_candidate, is_msg, RingView, node_at, handed, is_sent, message, is_earned, is_released}
use Rattle.ring_records.specs.Place.{after, before}
use Rattle.ring_records.specs.States.{durable_in}
use Rattle.ring_records.proofs.Keys.{is_key-true, is_key-same}
use Rattle.ring_world.specs.Events.{Sent, Action, Release, Process}
use Rattle.ring_world.specs.Capacity.{process, all_fresh}
use Rattle.ring_world.specs.CapacitySchedule.{IsSchedule}
use Rattle.ring_world.specs.Acts.{IsReleasable}
use Rattle.ring_world.specs.Schedules.{Rests, IsDelivered}
use Rattle.ring_world.specs.Schedules as scheduled
use Rattle.ring_world.proofs.Moves.{Stays, release_one, release_none}

is_candidate-true : (a b : Candidate) → is_candidate a b ≡ true → a ≡ b
unfolding is_candidate
is_candidate-true a b e =
    let parts = and_parts (eqb a.bid b.bid) (eqb a.node b.node) e in
    let bids = eqb-true a.bid b.bid parts.0 in
    let nodes = eqb-true a.node b.node parts.1 in
    λ i. record { bid = bids i; node = nodes i }

is_msg-true : (a b : Msg) → is_msg a b ≡ true → a ≡ b
unfolding is_msg
is_msg-true (Token k c) (Token l d) e =
    let parts = and_parts (is_key k l) (is_candidate c d) e in
    λ i. Token (is_key-true k l parts.0 i) (is_candidate-true c d parts.1 i)
is_msg-true (Token k c) (Elected l d) e = absurd cc
is_msg-true (Elected k c) (Token l d) e = absurd cc
is_msg-true (Elected k c) (Elected l d) e =
    let parts = and_parts (is_key k l) (is_candidate c d) e in
    λ i. Elected (is_key-true k l parts.0 i) (is_candidate-true c d parts.1 i)

is_sent-same : (o : Option Msg) (msg : Msg) → is_sent o msg ≡ true → o ≡ Some msg
is_sent-same None msg e = absurd cc
is_sent-same (Some m) msg e = ap Some (is_msg-true m msg e)

-- the neighbours of a node are nodes
pub before_low : (n i : ℕ) → 1 ≤ i → i ≤ n → 1 ≤ before n i
unfolding before
before_low n i low high = grind (arith, nat_tests)

pub before_high : (n i : ℕ) → 1 ≤ i → i ≤ n → before n i ≤ n
unfolding before
before_high n i low high = grind (arith, nat_tests)

pub after_low : (n i : ℕ) → 1 ≤ i → i ≤ n → 1 ≤ after n i
unfolding after
after_low n i low high = grind (arith, nat_tests)

pub after_high : (n i : ℕ) → 1 ≤ i → i ≤ n → after n i ≤ n
unfolding after
after_high n i low high = grind (arith, nat_tests)

-- the request is delivered once it is handed over
pub handed_delivers : (n i : ℕ) (events : List (ℕ × Action)) (q : Request) → IsDelivered n (events ++ handed n i q) i q
unfolding IsDelivered
handed_delivers n i events (ask.Stand key bid) = tt
handed_delivers n i events (ask.Take msg_no msg) = Contains-push events (before n i, Release (Sent (Carry msg_no msg)))
handed_delivers n i events (ask.Acked upto) = Contains-push events (after n i, Release (Sent (Credit upto)))
handed_delivers n i events (ask.Retire group floor) = tt
handed_delivers n i events (ask.Who key) = tt
handed_delivers n i events (ask.Latest group) = tt

module _ (w : RingView) (schedule : IsSchedule all_fresh w.size w.capacity w.events) where
  -- the packets that node b may release
  module _ (b : ℕ) (low : 1 ≤ b) (high : b ≤ w.size) where
    abbrev p : Process
    p = process all_fresh w.size w.capacity w.events b

    packet_releasable : (packet : Packet) → PacketRests b (take p.state.durable p.state.inputs) packet → IsReleasable b w.size w.capacity p (Sent packet)
    unfolding scheduled.IsReleasable Rests
    packet_releasable packet rests = record { number = p.state.durable; durable = omega arith; rests = rests }

    pub packet_stays : (packet : Packet) → PacketRests b (take p.state.durable p.state.inputs) packet → Stays w.size w.capacity w.events ((b, Release (Sent packet)) ∷ [])
    packet_stays packet rests = release_one w.size w.capacity w.events b (Sent packet) schedule low high (packet_releasable packet rests)

    pub carry_rests : (msg_no : ℕ) (msg : Msg) → is_sent (message w b msg_no) msg ≡ true → PacketRests b (take p.state.durable p.state.inputs) (Carry msg_no msg)
    carry_rests msg_no msg e = is_sent-same (message w b msg_no) msg e

    pub credit_rests : (upto : ℕ) → is_earned w b upto ≡ true → PacketRests b (take p.state.durable p.state.inputs) (Credit upto)
    credit_rests upto e =
        let takes = length (taken (durable_in (node_at w b))) in
        let parts = and_parts (leb 1 upto) (leb upto takes) e in
        (leb-true 1 upto parts.0, leb-true upto takes parts.1)

  -- what its neighbour hands to node i changes no node, and is what the request brings
  module _ (i : ℕ) (first : 1 ≤ i) (last : i ≤ w.size) where
    pub handed_stays : (q : Request) → is_released w i q ≡ true → Stays w.size w.capacity w.events (handed w.size i q)
    unfolding is_released
    handed_stays (ask.Stand key bid) e = release_none w.size w.capacity w.events schedule
    handed_stays (ask.Take msg_no msg) e =
        let b = before w.size i in
        let low = before_low w.size i first last in
        let high = before_high w.size i first last in
        packet_stays b low high (Carry msg_no msg) (carry_rests b low high msg_no msg e)
    handed_stays (ask.Acked upto) e =
        let b = after w.size i in
        let low = after_low w.size i first last in
        let high = after_high w.size i first last in
        packet_stays b low high (Credit upto) (credit_rests b low high upto e)
    handed_stays (ask.Retire group floor) e = release_none w.size w.capacity w.events schedule
    handed_stays (ask.Who key) e = release_none w.size w.capacity w.events schedule
    handed_stays (ask.Latest group) e = release_none w.size w.capacity w.events schedule

-- ---- what is sent may be delivered

is_candidate-same : (a : Candidate) → is_candidate a a ≡ true
unfolding is_candidate
is_candidate-same a = grind (arith, nat_tests)

is_msg-same : (m : Msg) → is_msg m m ≡ true
unfolding is_msg
is_msg-same (Token k c) = and_from (is_key k k) (is_candidate c c) (is_key-same k) (is_candidate-same c)
is_msg-same (Elected k c) = and_from (is_key k k) (is_candidate c c) (is_key-same k) (is_candidate-same c)

pub sent_released : (w : RingView) (from to msg_no : ℕ) (msg : Msg) (size : ℕ) → size ≡ w.size → before size to ≡ from → message w from msg_no ≡ Some msg
    → is_released w to (ask.Take msg_no msg) ≡ true
unfolding is_released
sent_released w from to msg_no msg size same back sends =
    ap (λ n. is_sent (message w (before n to) msg_no) msg) (sym same) ∙ (ap (λ b. is_sent (message w b msg_no) msg) back ∙ (ap (λ o. is_sent o msg) sends ∙ is_msg-same msg))
