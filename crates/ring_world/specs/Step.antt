-- What an event tells, where it leads, and why it is refused.
use Rattle.std.specs.Prelude.{ℕ, ◌≡◌, ◌+◌, ◌-◌, ◌^◌, Bool, ◌||◌, not, nat_eq, nat_lt, nat_le, if◌then◌else◌, List, [], length, Option, Some, None}
use Rattle.ring_records.specs.declared.refusal.Refusal.{Refusal}
use Rattle.ring_records.specs.declared.refusal.Refusal.TheVariants as refused
use Rattle.ring_records.specs.declared.reply.Reply.{Reply}
use Rattle.ring_records.specs.declared.request.Request.{Request}
use Rattle.ring_records.specs.declared.request.Request.TheVariants as ask
use Rattle.ring_records.specs.Objection.{where_so}
use Rattle.ring_records.specs.Lists.{or_else}
use Rattle.ring_records.specs.Member.{member}
use Rattle.ring_records.specs.Outside.{is_outside}
use Rattle.ring_records.specs.Place.{before}
use Rattle.ring_node.specs.declared.flight.Flight.{Flight}
use Rattle.ring_node.specs.declared.flight.Flight.TheVariants as flights
use Rattle.ring_node.specs.Refusals.{checkpoint_refusal}
use Rattle.ring_world.specs.Ring as ring
use Rattle.ring_world.specs.Ring.{RingView, node_at, is_launched, lost, round, brought, carried, is_earned, is_released, is_full, swept}
use Rattle.ring_world.specs.State.{State}
use Rattle.ring_world.specs.declared.event.Event.{Event}
use Rattle.ring_world.specs.declared.event.Event.TheVariants.{Submit, Flush, Deliver, DeliverAll, Credit, Crash, Stop, Checkpoint, StopCheckpoint}
use Rattle.ring_world.specs.declared.outcome.Outcome.{Outcome}

-- an outcome without where it lies in memory
pub record Told : Type 0 where
  pub ticket : Option ℕ
  pub flushed : Option ℕ
  pub delivered : Option ℕ
  pub replies : List (ℕ × Reply)
  pub lost : List ℕ
  pub up : Option ℕ

abbrev pub told : Outcome → Told
told o = record { ticket = o.ticket; flushed = o.flushed; delivered = o.delivered; replies = o.replies.items; lost = o.lost.items; up = o.up }

abbrev pub nothing_told : Told
nothing_told = record { ticket = None; flushed = None; delivered = None; replies = []; lost = []; up = None }

-- ---- what an event tells, and the world afterwards

-- node i is asked under the next ticket number
unfoldable pub submitted : ℕ → Request → State → Told × State
submitted i q s =
    let ticket = s.tickets + 1 in
    let part = brought (Some ticket) i q s.ring in
    (record nothing_told { ticket = Some ticket; replies = part.0 }, record s { ring = part.1; tickets = ticket })

-- a batch or a checkpoint of node i is made durable, and the replies that rested on it are released
unfoldable pub flushed : Flight → ℕ → State → Told × State
flushed flight i s =
    let part = round flight i s.ring in
    (record nothing_told { flushed = Some ((node_at part.1 i).durable - (node_at s.ring i).durable); replies = part.0 }, record s { ring = part.1 })

-- node i was opened again, in this ring: the tickets that it lost, and how many inputs it holds
abbrev pub reopened : ℕ → RingView → State → Told × State
reopened i w s = (record nothing_told { lost = lost i s.ring; up = Some (length (node_at w i).inputs) }, record s { ring = w })

unfoldable pub crashed : ℕ → State → Told × State
crashed i s = reopened i (ring.crashed i s.ring) s

-- where nothing is launched, a stop is a crash
unfoldable pub stopped : Flight → Bool → ℕ → State → Told × State
stopped flight keeps_flying i s = if is_launched flight (node_at s.ring i) then reopened i (ring.stopped flight keeps_flying i s.ring) s else crashed i s

unfoldable pub delivered_all : State → Told × State
delivered_all s = let all = swept 10000 s.ring in (record nothing_told { delivered = Some all.0 }, record s { ring = all.1 })

abbrev pub put : State → Option (ℕ × Request) → Told × State
put s None = (nothing_told, s)
put s (Some delivery) = submitted delivery.0 delivery.1 s

-- a device that is stopped keeps what flies, or it does not
unfoldable pub stepped : Bool → State → Event → Told × State
stepped keeps_flying s (Submit node q) = submitted node q s
stepped keeps_flying s (Flush node) = flushed flights.Batch node s
stepped keeps_flying s (Deliver from msg_no) = put s (carried s.ring from msg_no)
stepped keeps_flying s DeliverAll = delivered_all s
stepped keeps_flying s (Credit from upto) = submitted (before s.ring.size from) (ask.Acked upto) s
stepped keeps_flying s (Crash node) = crashed node s
stepped keeps_flying s (Stop node call tear) = stopped flights.Batch keeps_flying node s
stepped keeps_flying s (Checkpoint node) = flushed flights.Checkpoint node s
stepped keeps_flying s (StopCheckpoint node call tear) = stopped flights.Checkpoint keeps_flying node s

-- all that happened is told
abbrev pub all_told : Told × State → Told × State
all_told step = (step.0, record step.1 { ring = record step.1.ring { told = step.1.ring.events } })

-- The relation of a step: the event may tell o and lead from s to t.
unfoldable pub Steps : State → Event → Told → State → Type 0
Steps s event o t = (keeps_flying : Bool) × ((o, t) ≡ all_told (stepped keeps_flying s event))

-- ---- why an event is refused: the first cause that there is, in this order

abbrev pub no_node : State → ℕ → Option Refusal
no_node s i = where_so (nat_lt s.ring.size i) refused.BadNumber

-- of the device calls of a flush or a checkpoint of the node, so many, none is this one
abbrev pub no_stop : State → ℕ → ℕ → ℕ → Option Refusal
no_stop s calls i call = or_else (no_node s i) (where_so (nat_eq call 0 || nat_lt calls call) refused.BadNumber)

abbrev pub unknown : Option (ℕ × Request) → Option Refusal
unknown None = Some refused.Unknown
unknown (Some delivery) = None

-- no ticket number is left
abbrev pub spent : State → Option Refusal
spent s = where_so (nat_le (2 ^ 60) s.tickets) refused.Limit

-- what the event itself meets: a number that is none of this ring, a packet that was not released, no ticket number left
unfoldable pub objection_to : State → Event → Option Refusal
objection_to s (Submit node q) =
    or_else (no_node s node)
    (or_else (where_so (is_outside s.ring.size q) refused.BadNumber)
    (or_else (where_so (not (is_released s.ring node q)) refused.Unknown)
    (spent s)))
objection_to s (Flush node) = no_node s node
objection_to s (Deliver from msg_no) = or_else (no_node s from) (or_else (unknown (carried s.ring from msg_no)) (spent s))
objection_to s DeliverAll = None
objection_to s (Credit from upto) = or_else (no_node s from) (or_else (where_so (not (is_earned s.ring from upto)) refused.Unknown) (spent s))
objection_to s (Crash node) = no_node s node
objection_to s (Stop node call tear) = no_stop s 4 node call
objection_to s (Checkpoint node) = no_node s node
objection_to s (StopCheckpoint node call tear) = no_stop s 6 node call

-- what a checkpoint of the node meets: its journal may write no other area, or the snapshot is longer than the capacity
abbrev pub no_checkpoint : State → ℕ → Option Refusal
no_checkpoint s i = checkpoint_refusal (member i s.ring.size s.ring.capacity) (node_at s.ring i)

-- what the checkpoint meets that the event begins, if it begins one
unfoldable pub unbegun : State → Event → Option Refusal
unbegun s (Submit node q) = None
unbegun s (Flush node) = None
unbegun s (Deliver from msg_no) = None
unbegun s DeliverAll = None
unbegun s (Credit from upto) = None
unbegun s (Crash node) = None
unbegun s (Stop node call tear) = None
unbegun s (Checkpoint node) = no_checkpoint s node
unbegun s (StopCheckpoint node call tear) = no_checkpoint s node

-- the first cause to refuse the event, want of memory aside
unfoldable pub refusal_of : State → Event → Option Refusal
refusal_of s event =
    or_else (where_so s.ring.failed refused.Failed)
    (or_else (objection_to s event)
    (or_else (where_so (is_full s.ring) refused.Limit)
    (unbegun s event)))
