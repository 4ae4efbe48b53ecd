-- A ring of nodes: what happened to it, and the parts that its events are made of.
use Rattle.std.specs.Prelude.{ℕ, zero, suc, ◌==◌, ◌+◌, ◌-◌, ◌^◌, Bool, true, false, ◌&&◌, nat_lt, nat_le, if◌then◌else◌, List, [], ◌∷◌, ◌++◌, length, map, replicate, set, slice_get, slice_index_or, Option, Some, None}
use Rattle.std.specs.List.{filter_map, range_with_len}
use Rattle.ring_records.specs.declared.candidate.Candidate.{Candidate}
use Rattle.ring_records.specs.declared.msg.Msg.{Msg}
use Rattle.ring_records.specs.declared.msg.Msg.TheVariants.{Token, Elected}
use Rattle.ring_records.specs.declared.packet.Packet.TheVariants.{Carry, Credit}
use Rattle.ring_records.specs.declared.reply.Reply.{Reply}
use Rattle.ring_records.specs.declared.request.Request.{Request}
use Rattle.ring_records.specs.declared.request.Request.TheVariants as ask
use Rattle.ring_records.specs.Admission.{newest}
use Rattle.ring_records.specs.Answer.{Answered}
use Rattle.ring_records.specs.Emission.{sent}
use Rattle.ring_records.specs.History.{taken}
use Rattle.ring_records.specs.Lists.{first}
use Rattle.ring_records.specs.Member.{member}
use Rattle.ring_records.specs.Order.{is_key}
use Rattle.ring_records.specs.Place.{after, before}
use Rattle.ring_records.specs.States.{NodeState, durable_in}
use Rattle.ring_records.specs.Serving.{answered_by}
use Rattle.ring_node.specs.declared.flight.Flight.{Flight}
use Rattle.ring_node.specs.declared.flight.Flight.TheVariants.{Batch, Checkpoint}
use Rattle.ring_node.specs.Open.{Open, serial_of, due, sealed}
use Rattle.ring_world.specs.Events.{Replied, Sent, Action, Submit, Launch, LaunchAll, Land, Release, Crash}
use Rattle.ring_world.specs.Capacity.{state_after, all_fresh}

-- how many nodes it has, numbered from 1, and their capacity; whether each input is made durable as it is accepted;
-- whether a growth was refused, after which it is of no use; what happened, and as much of that as was told; and the
-- open tickets of each node, those of node i at place i - 1, the oldest first
pub record RingView : Type 0 where
  pub size : ℕ
  pub capacity : ℕ
  pub eager : Bool
  pub failed : Bool
  pub events : List (ℕ × Action)
  pub told : List (ℕ × Action)
  pub held : List (List Open)

-- one in which nothing happened
abbrev pub new_ring : ℕ → Bool → ℕ → RingView
new_ring size eager capacity = record { size = size; capacity = capacity; eager = eager; failed = false; events = []; told = []; held = replicate size [] }

-- ---- the parts of an event

-- node i, as the events leave it
abbrev pub node_at : RingView → ℕ → NodeState
node_at w i = state_after all_fresh w.size w.capacity w.events i

-- its open tickets
abbrev pub held_at : RingView → ℕ → List Open
held_at w i = slice_index_or w.held (i - 1) []

-- these happen at node i, and these are its open tickets afterwards
abbrev pub happens : List (ℕ × Action) → ℕ → List Open → RingView → RingView
happens events i held w = record w { events = w.events ++ events; held = set w.held (i - 1) held }

-- the answer of node i to a request
abbrev pub answered_at : RingView → ℕ → Request → Answered
answered_at w i q = answered_by (member i w.size w.capacity) (node_at w i) q

-- the packet that a neighbour of node i releases to it, for what the request brings
abbrev pub handed : ℕ → ℕ → Request → List (ℕ × Action)
handed size i (ask.Stand key bid) = []
handed size i (ask.Take msg_no msg) = (before size i, Release (Sent (Carry msg_no msg))) ∷ []
handed size i (ask.Acked upto) = (after size i, Release (Sent (Credit upto))) ∷ []
handed size i (ask.Retire group floor) = []
handed size i (ask.Who key) = []
handed size i (ask.Latest group) = []

unfoldable pub given : ℕ → Request → RingView → RingView
given i q w = record w { events = w.events ++ handed w.size i q }

-- node i is asked; its ticket is open, under this number, if any
unfoldable pub asked : Option ℕ → ℕ → Request → RingView → RingView
asked serial i q w = happens ((i, Submit q) ∷ []) i (held_at w i ++ record { serial = serial; kept = answered_at w i q } ∷ []) w

-- whether a node in this state launches it: a batch where something waits, a checkpoint in any case
abbrev pub is_launched : Flight → NodeState → Bool
is_launched Batch s = nat_lt s.durable (length s.inputs)
is_launched Checkpoint s = true

-- that it does so: with a batch, or with all that it accepted, as a checkpoint of the newest layout
abbrev pub launch : Flight → Action
launch Batch = Launch
launch Checkpoint = LaunchAll newest

-- what happens then at node i: it is launched, and lands
abbrev pub landing : Flight → ℕ → NodeState → List (ℕ × Action)
landing flight i s = if is_launched flight s then (i, launch flight) ∷ (i, Land) ∷ [] else []

unfoldable pub landed : Flight → ℕ → RingView → RingView
landed flight i w = record w { events = w.events ++ landing flight i (node_at w i) }

-- inputs of node i are not durable yet
abbrev pub waits : RingView → ℕ → Bool
waits w i = is_launched Batch (node_at w i)

abbrev pub release_of : ℕ → Open → ℕ × Action
release_of i t = (i, Release (Replied t.kept))

-- the tickets of node i whose replies rest on durable inputs alone
abbrev pub due_at : RingView → ℕ → List Open
due_at w i = due (node_at w i).durable (held_at w i)

-- their replies are released
unfoldable pub settled : ℕ → RingView → RingView
settled i w = happens (map (release_of i) (due_at w i)) i (sealed (node_at w i).durable (held_at w i)) w

abbrev pub with_reply : Option ℕ → Reply → Option (ℕ × Reply)
with_reply None reply = None
with_reply (Some serial) reply = Some (serial, reply)

abbrev pub reply_of : Open → Option (ℕ × Reply)
reply_of t = with_reply t.serial t.kept.answer.reply

-- those of tickets with a number, in order
unfoldable pub replies : ℕ → RingView → List (ℕ × Reply)
replies i w = filter_map reply_of (due_at w i)

-- ---- what an event releases, and the ring after it

-- a part of an event: the replies that it releases, and the ring after it
abbrev pub Part : Type 0
Part = List (ℕ × Reply) × RingView

-- what is due at node i is released
abbrev pub released : ℕ → RingView → Part
released i w = (replies i w, settled i w)

-- One part, and the next one in the ring that it leaves: the replies of both, in turn, and the ring after the second.
abbrev pub and_then : Part → (RingView → Part) → Part
and_then first next = (first.0 ++ (next first.1).0, (next first.1).1)

-- A round at node i: what is launched lands; then what is due is released.
abbrev pub round : Flight → ℕ → RingView → Part
round flight i w = released i (landed flight i w)

-- Rounds of batches at node i until nothing waits there, so many at most.
unfoldable pub rounds : ℕ → ℕ → RingView → Part
rounds zero i w = ([], w)
rounds (suc most) i w = if waits w i then and_then (round Batch i w) (rounds most i) else ([], w)

-- each makes an input durable, so there are no more rounds than inputs
abbrev pub drained : ℕ → RingView → Part
drained i w = rounds (length (node_at w i).inputs) i w

-- Node i is asked, after its neighbour released what the request brings; what is due is released. In an eager ring
-- rounds follow until nothing waits.
unfoldable pub brought : Option ℕ → ℕ → Request → RingView → Part
brought serial i q w =
    let first = released i (asked serial i q (given i q w)) in
    if w.eager then and_then first (drained i) else first

-- ---- crashes

-- node i is crashed, and opened again
unfoldable pub crashed : ℕ → RingView → RingView
crashed i w = happens ((i, Crash false) ∷ []) i [] w

-- node i is stopped while this flies, and opened again, with what flew or without
unfoldable pub stopped : Flight → Bool → ℕ → RingView → RingView
stopped flight keeps_flying i w = happens ((i, launch flight) ∷ (i, Crash keeps_flying) ∷ []) i [] w

-- the numbers of the tickets that are open at node i, in order
unfoldable pub lost : ℕ → RingView → List ℕ
lost i w = filter_map serial_of (held_at w i)

-- ---- packets

unfoldable pub is_candidate : Candidate → Candidate → Bool
is_candidate a b = (a.bid == b.bid) && (a.node == b.node)

unfoldable pub is_msg : Msg → Msg → Bool
is_msg (Token key c) (Token k d) = is_key key k && is_candidate c d
is_msg (Token key c) (Elected k d) = false
is_msg (Elected key c) (Token k d) = false
is_msg (Elected key c) (Elected k d) = is_key key k && is_candidate c d

abbrev pub is_sent : Option Msg → Msg → Bool
is_sent None msg = false
is_sent (Some m) msg = is_msg m msg

-- message `msg_no` that the durable inputs of node i sent
abbrev pub message : RingView → ℕ → ℕ → Option Msg
message w i msg_no = slice_get (sent i (durable_in (node_at w i))) msg_no

-- the durable inputs of node i took so many messages, at least one: it may tell its predecessor so
abbrev pub is_earned : RingView → ℕ → ℕ → Bool
is_earned w i upto = nat_le 1 upto && nat_le upto (length (taken (durable_in (node_at w i))))

-- what the request brings node i, if anything, its neighbour may release
unfoldable pub is_released : RingView → ℕ → Request → Bool
is_released w i (ask.Stand key bid) = true
is_released w i (ask.Take msg_no msg) = is_sent (message w (before w.size i) msg_no) msg
is_released w i (ask.Acked upto) = is_earned w (after w.size i) upto
is_released w i (ask.Retire group floor) = true
is_released w i (ask.Who key) = true
is_released w i (ask.Latest group) = true

-- ---- deliveries

-- with 2^60 events no more are taken
abbrev pub is_full : RingView → Bool
is_full w = nat_le (2 ^ 60) (length w.events)

-- the node and the request that a message is delivered by
abbrev pub carried_to : RingView → ℕ → ℕ → Option Msg → Option (ℕ × Request)
carried_to w from msg_no None = None
carried_to w from msg_no (Some msg) = Some (after w.size from, ask.Take msg_no msg)

-- message `msg_no` of the link from a node to its successor
abbrev pub carried : RingView → ℕ → ℕ → Option (ℕ × Request)
carried w from msg_no = carried_to w from msg_no (message w from msg_no)

-- the number of the message that the successor of a node expects
abbrev pub expected : RingView → ℕ → ℕ
expected w from = length (taken (node_at w (after w.size from)).inputs)

-- its delivery, if it may be released
abbrev pub next_of : RingView → ℕ → Option (ℕ × Request)
next_of w from = carried w from (expected w from)

-- that of the lowest node that has one
abbrev pub ready : RingView → Option (ℕ × Request)
ready w = first (filter_map (next_of w) (range_with_len 1 w.size))

-- that is the next delivery, where an event may be added
abbrev pub next_delivery : RingView → Option (ℕ × Request)
next_delivery w = if is_full w then None else ready w

-- A sweep delivers what is ready, one message after the other, until nothing is ready, no event may be added, or a node
-- does not accept what it is brought.

-- One delivery of a sweep, whose ticket has no number: whether the node accepts it, so that its inputs are more than
-- before, and the ring afterwards.
unfoldable pub swept_one : ℕ → Request → RingView → Bool × RingView
swept_one i q w = let t = (brought None i q w).1 in (nat_lt (length (node_at w i).inputs) (length (node_at t i).inputs), t)

-- one more was accepted
abbrev pub counted : ℕ × RingView → ℕ × RingView
counted swept = (swept.0 + 1, swept.1)

-- After a delivery that was accepted come the others, and it counts as one more; one that was refused ends the sweep.
abbrev pub swept_on : (RingView → ℕ × RingView) → Bool × RingView → ℕ × RingView
swept_on others (true, w) = counted (others w)
swept_on others (false, w) = (0, w)

-- The next delivery is made, and the others follow; where there is none the sweep ends.
abbrev pub swept_with : (RingView → ℕ × RingView) → RingView → Option (ℕ × Request) → ℕ × RingView
swept_with others w None = (0, w)
swept_with others w (Some delivery) = swept_on others (swept_one delivery.0 delivery.1 w)

-- A sweep of at most so many deliveries: how many were accepted, and the ring after them.
unfoldable pub swept : ℕ → RingView → ℕ × RingView
swept zero w = (0, w)
swept (suc count) w = swept_with (swept count) w (next_delivery w)
