-- A node at work with its open tickets, and the messages that it sent.
use Rattle.std.specs.Prelude.{ℕ, ◌≡◌, ◌+◌, ◌<◌, ◌≤◌, true, false, List, [], ◌∷◌, ◌++◌, length, Option, None}
use Rattle.disk_model.specs.Disk.{Reach, Reaches}
use Rattle.disk_model.specs.Unarmed as fuse
use Rattle.disk_model.specs.MemDevice as memory
use Rattle.disk_model.specs.declared.fuse.FuseDevice.{FuseDevice}
use Rattle.disk_model.specs.declared.memory.MemDevice.{MemDevice}
use Rattle.ring_records.specs.declared.msg.Msg.{Msg}
use Rattle.ring_records.specs.declared.input.Input.{Input}
use Rattle.ring_records.specs.Answer.{Answered}
use Rattle.ring_records.specs.Admission.{newest}
use Rattle.ring_records.specs.States.{NodeState, durable_in}
use Rattle.ring_records.specs.Lawful.{IsLawfulState}
use Rattle.ring_records.specs.Emission.{sent}
use Rattle.ring_records.specs.Message.{candidate_of}
use Rattle.std.specs.List.{Contains}
use Rattle.ring_records.specs.Member.{Member}
use Rattle.gated_journal.specs.Reading.{device_size, is_header}
use Rattle.group_commit.specs.Desk.{DeskView, DeskKept, seen, launched}
use Rattle.group_commit.specs.Launching.{launched_all, checkpoint_objection, needs_checkpoint}
use Rattle.group_commit.specs.Past.{IsPast}
use Rattle.group_commit.specs.Ticket.{TicketView, ticket_with}
use Rattle.ring_node.specs.Node.{NodeView, state_of, launched_as}
use Rattle.ring_node.specs.Refusals.{checkpoint_refusal}
use Rattle.ring_node.specs.Open.{Open}
use Rattle.ring_node.specs.declared.flight.Flight.{Flight}
use Rattle.ring_node.specs.declared.flight.Flight.TheVariants.{Batch, Checkpoint}

-- ---- open tickets

-- a ticket, and the number that the ring gave it, if any
pub record HeldView : Type 0 where
  pub serial : Option ℕ
  pub ticket : TicketView

-- this holds of the first, if there is one
abbrev pub MatchFirst : (HeldView → Type 0) → List HeldView → Type 0
MatchFirst P [] = Unit {0}
MatchFirst P (h ∷ hs) = P h

-- The queue has just these tickets of this node and opening, in their order, one for one. The first rests on at least
-- `from` inputs, each on no fewer than the one before it, and the last on at most `to`: so those that are due come first.
unfoldable pub AreHeld : ℕ → ℕ → ℕ → ℕ → List (ℕ × Answered) → List HeldView → Type 0
AreHeld node run from to [] [] = from ≤ to
AreHeld node run from to [] (h ∷ queue) = ⊥
AreHeld node run from to (t ∷ tickets) [] = ⊥
AreHeld node run from to (t ∷ tickets) (h ∷ queue) = record {
  is : h.ticket ≡ ticket_with node run t.0 t.1;
  no_fewer : from ≤ t.1.answer.number;
  others : AreHeld node run t.1.answer.number to tickets queue;
}

-- the open tickets: what is kept for each, with the number that the ring gave it
unfoldable pub shown_with : List (ℕ × Answered) → List HeldView → List Open
shown_with [] queue = []
shown_with (t ∷ tickets) [] = []
shown_with (t ∷ tickets) (h ∷ queue) = record { serial = h.serial; kept = t.1 } ∷ shown_with tickets queue

-- ---- a node at work

abbrev pub view_with : ℕ → DeskView → List HeldView → NodeView
view_with dropped desk queue = record {
  member = desk.member;
  inputs = desk.state.inputs;
  durable = desk.state.durable;
  base = desk.state.base;
  held = shown_with desk.tickets queue;
  issued = desk.issued;
  dropped = dropped;
}

-- the reach of a node's device
abbrev pub reach_of : FuseDevice MemDevice → Reach
reach_of device = fuse.reach_of memory.reach_of device

-- It takes requests, nothing flies, its state is lawful, the area in use is of the newest layout, its open tickets are
-- these, and its device is reliable to the journal's end: no fuse was armed.
pub record IsServed (desk : DeskView) (reach : Reach) (queue : List HeldView) : Type 0 where
  pub takes : desk.closed ≡ false
  pub works : desk.failed ≡ false
  pub idle : desk.state.flying ≡ desk.state.durable
  pub none : desk.state.checkpoint ≡ None
  pub lawful : IsLawfulState desk.member desk.state
  pub layout : desk.state.base.layout ≡ newest
  pub held : AreHeld desk.member.node desk.run 0 (length desk.state.inputs) desk.tickets queue
  pub reaches : Reaches reach (device_size desk.member.capacity)

-- ---- a node of the ring

-- each message's candidate is a node of the ring
abbrev pub AreInside : ℕ → List Msg → Type 0
AreInside n messages = (msg : Msg) → Contains messages msg → (candidate_of msg).node ≤ n

-- The node at work is this one, by its whole history, and the messages are those that its durable inputs sent.
pub record IsWhole (m : Member) (desk : DeskView) (reach : Reach) (queue : List HeldView) (messages : List Msg) : Type 0 where
  pub range : is_header m ≡ true
  pub is : desk.member ≡ m
  pub served : IsServed desk reach queue
  pub sends : messages ≡ sent m.node (durable_in desk.state)
  pub inside : AreInside m.n messages

-- These inputs are the desk's past, and the node is so behind them.
pub record IsRingNode (m : Member) (past : List Input) (desk : DeskKept) (reach : Reach) (queue : List HeldView) (messages : List Msg) : Type 0 where
  pub behind : IsPast desk.view.member desk.opening past
  pub whole : IsWhole m (seen past desk) reach queue messages

-- The desk of this node shows these inputs, so many of them durable, behind a past that its opening is the summary of.
pub record IsShownBy (m : Member) (inputs : List Input) (durable : ℕ) (desk : DeskKept) : Type 0 where
  pub past : List Input
  pub member : desk.view.member ≡ m
  pub is : IsPast desk.view.member desk.opening past
  pub all : past ++ desk.view.state.inputs ≡ inputs
  pub count : length past + desk.view.state.durable ≡ durable

-- ---- what flies

-- the desk once it launched this: of a whole history, and by what it keeps alone
abbrev pub flies : Flight → DeskView → DeskView
flies flight desk = record desk { state = launched_as flight desk.member.node desk.state }

abbrev pub launched_by : Flight → DeskKept → DeskView
launched_by Batch desk = launched desk.view
launched_by Checkpoint desk = launched_all desk

-- want of memory aside the desk launches this
abbrev pub MayFly : Flight → DeskKept → Type 0
MayFly Batch desk = (desk.view.failed ≡ false) × (needs_checkpoint desk ≡ false)
MayFly Checkpoint desk = checkpoint_objection desk ≡ None

-- so does the desk of a node in this state
abbrev pub MayBegin : Flight → Member → NodeState → Type 0
MayBegin Batch m s = Unit {0}
MayBegin Checkpoint m s = checkpoint_refusal m s ≡ None

-- so does that of this node, and calls the device: it may be stopped then
abbrev pub MayStop : Flight → NodeView → Type 0
MayStop Batch v = v.durable < length v.inputs
MayStop Checkpoint v = checkpoint_refusal v.member (state_of v) ≡ None
