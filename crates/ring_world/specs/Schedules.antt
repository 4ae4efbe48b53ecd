-- What may happen to the nodes of a ring, by whatever rule of room. A schedule is a list of events that may happen.
use Rattle.std.specs.Prelude.{ℕ, ◌≡◌, ◌≤◌, true, false, List, [], length, take, Some}
use Rattle.std.specs.List.{Contains}
use Rattle.ring_records.specs.declared.base.Base.{Base}
use Rattle.ring_records.specs.declared.input.Input.{Input}
use Rattle.ring_records.specs.declared.limits.TheConstants.{LAYOUT, OLDEST_AREA}
use Rattle.ring_records.specs.declared.packet.Packet.TheVariants.{Carry, Credit}
use Rattle.ring_records.specs.declared.request.Request.{Request}
use Rattle.ring_records.specs.declared.request.Request.TheVariants as ask
use Rattle.ring_records.specs.Answer.{Answered, Answers, PacketRests}
use Rattle.ring_records.specs.Leader.{leader}
use Rattle.ring_records.specs.Lists.{EachAfter}
use Rattle.ring_records.specs.Place.{before, after}
use Rattle.ring_records.specs.States.{NodeState, is_idle}
use Rattle.ring_world.specs.Events.{Thing, Replied, Sent, Shown, Action, Submit, Launch, LaunchAll, Land, Release, Crash, Process, RoomRule, process}

-- At some point of h the answer was given, by what room said there, counted from some base.
pub record WasAnswered (me n : ℕ) (room : RoomRule) (h : List Input) (a : Answered) : Type 0 where
  pub base : Base
  pub answers : Answers me n (room.says me base) h a.question a.answer

-- The thing rests on these inputs, all of them: the request left them with this answer; they sent the message, or hold
-- as many takes as are credited; they decide the leader.
unfoldable pub Rests : ℕ → ℕ → RoomRule → List Input → Thing → Type 0
Rests me n room h (Replied a) = (a.answer.number ≡ length h) × WasAnswered me n room h a
Rests me n room h (Sent packet) = PacketRests me h packet
Rests me n room h (Shown key c) = leader me h key ≡ Some c

-- The thing rests on the first `number` inputs of h.
pub record RestsOn (me n : ℕ) (room : RoomRule) (h : List Input) (number : ℕ) (thing : Thing) : Type 0 where
  pub within : number ≤ length h
  pub rests : Rests me n room (take number h) thing

-- ---- what may happen

-- A node whose device failed has Release and Crash alone until it is opened again. No event has to happen, so the lists
-- in which it keeps to that are among these; and so are those in which the version that a node runs, and with it the
-- layout of its checkpoints, changes at a crash alone.

-- What the request brings node i was released to it: a message by the node before it, a credit by the node behind it. A
-- packet may come again, and in any order.
unfoldable pub IsDelivered : ℕ → List (ℕ × Action) → ℕ → Request → Type 0
IsDelivered n events i (ask.Stand key bid) = Unit {0}
IsDelivered n events i (ask.Take msg_no msg) = Contains events (before n i, Release (Sent (Carry msg_no msg)))
IsDelivered n events i (ask.Acked upto) = Contains events (after n i, Release (Sent (Credit upto)))
IsDelivered n events i (ask.Retire group floor) = Unit {0}
IsDelivered n events i (ask.Who key) = Unit {0}
IsDelivered n events i (ask.Latest group) = Unit {0}

-- The thing rests on first inputs of the node, `number` of them, and they are durable.
pub record IsDurable (i n : ℕ) (room : RoomRule) (s : NodeState) (thing : Thing) : Type 0 where
  pub number : ℕ
  pub durable : number ≤ s.durable
  pub rests : Rests i n room (take number s.inputs) thing

-- node i may hand the thing out: of replies, one that it keeps
unfoldable pub IsReleasable : ℕ → ℕ → RoomRule → Process → Thing → Type 0
IsReleasable i n room p (Replied a) = Contains p.kept a × (a.answer.number ≤ p.state.durable)
IsReleasable i n room p (Sent packet) = IsDurable i n room p.state (Sent packet)
IsReleasable i n room p (Shown key c) = IsDurable i n room p.state (Shown key c)

-- some version writes areas of this layout
pub record IsWritten (layout : ℕ) : Type 0 where
  pub least : OLDEST_AREA ≤ layout
  pub most : layout ≤ LAYOUT

-- node i may do this after the events, which made it p
unfoldable pub May : ℕ → RoomRule → List (ℕ × Action) → ℕ → Process → Action → Type 0
May n room events i p (Submit q) = IsDelivered n events i q
May n room events i p Launch = is_idle p.state ≡ true
May n room events i p (LaunchAll layout) = (is_idle p.state ≡ true) × IsWritten layout
May n room events i p Land = is_idle p.state ≡ false
May n room events i p (Release thing) = IsReleasable i n room p thing
May n room events i p (Crash keeps_flying) = Unit {0}

-- the event may come after these
pub record MayHappen (start : ℕ → Base) (n : ℕ) (room : RoomRule) (events : List (ℕ × Action)) (event : ℕ × Action) : Type 0 where
  pub first : 1 ≤ event.0
  pub last : event.0 ≤ n
  pub may : May n room events event.0 (process start n room events event.0) event.1

-- each event may come after those before it, whatever the journals began with
abbrev pub IsSchedule : (ℕ → Base) → ℕ → RoomRule → List (ℕ × Action) → Type 0
IsSchedule start n room events = EachAfter (MayHappen start n room) [] events
