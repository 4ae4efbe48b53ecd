-- What a hub's calls tell without the state under its lock.
use Rattle.std.specs.Prelude.{ℕ, ◌≡◌, ◌+◌, ◌⊎◌, Bool, true, false, not, List, [], ◌++◌, length, Result, Ok, Err}
use Rattle.std.specs.FinMap as fin
use Rattle.ring_records.specs.declared.input.Input.{Input}
use Rattle.ring_records.specs.declared.packet.Packet.{Packet}
use Rattle.ring_records.specs.declared.refusal.Refusal.{Refusal}
use Rattle.ring_records.specs.declared.refusal.Refusal.TheVariants as refused
use Rattle.ring_records.specs.declared.request.Request.{Request}
use Rattle.ring_records.specs.declared.summary.Summary.{Summary}
use Rattle.ring_records.specs.Admission.{newest, snapshot_len, used}
use Rattle.ring_records.specs.History.{stands}
use Rattle.ring_records.specs.Member.{Member}
use Rattle.ring_records.specs.Outside.{is_outside}
use Rattle.ring_records.specs.Release.{packets, notices, window}
use Rattle.ring_records.specs.States.{NodeState, launched_base, durable_in}
use Rattle.ring_records.specs.Serving.{shown_in}
use Rattle.ring_records.specs.Lawful.{IsLawfulState}
use Rattle.ring_records.specs.Summary.{floors_in, summary}
use Rattle.group_commit.specs.declared.landed.Landed.{Landed}
use Rattle.group_commit.specs.Desk.{DeskKept, frees_room, is_due, known_all, shown_all}
use Rattle.group_commit.specs.Next.{is_to_make_room}
use Rattle.group_commit.specs.Past.{IsPast, shifted}
use Rattle.group_commit.specs.Since.{IsKnownState}
use Rattle.commit_hub.specs.declared.look.Look.{Look}
use Rattle.commit_hub.specs.Over.{is_over}

-- what came of a call, of which this alone is told
abbrev pub told_of : {X Y E : Type 0} → Result X E → (X → Y) → Result Y E
told_of (Ok x) part = Ok (part x)
told_of (Err why) part = Err why

-- Why a node of a ring of n gives no ticket for the request: it is closed or has failed; the message is of no node of
-- the ring; or else all numbers of tickets were given, or a growth was refused.
abbrev pub IsUnasked : ℕ → Request → Refusal → Type 0
IsUnasked n q why = (why ≡ refused.Failed)
    ⊎ (((is_outside n q ≡ true) × (why ≡ refused.BadNumber))
    ⊎ ((is_outside n q ≡ false) × ((why ≡ refused.Limit) ⊎ (why ≡ refused.OutOfMemory))))

-- ---- The hub's desk was opened with the summary `opening`. A hub whose opening is of no past of its node keeps its counts
-- and its safety; of histories it tells what there are.

-- In some lawful state of the node, behind the past, its durable inputs are those since the opening and then these. They
-- became durable, and this is what they let the node release.
pub record IsBroughtBehind (member : Member) (past since inputs : List Input) (landed : Landed) : Type 0 where
  pub state : NodeState
  pub lawful : IsLawfulState member (shifted past state)
  pub durable : durable_in (shifted past state) ≡ (past ++ since) ++ inputs
  pub packets : landed.packets.items ≡ packets member.node (past ++ since) inputs
  pub notices : landed.notices.items ≡ notices member.node (past ++ since) inputs

-- so it is whatever past of the node the opening is of
abbrev pub IsBrought : Member → Summary → List Input → List Input → Landed → Type 0
IsBrought member opening since inputs landed = (past : List Input) → IsPast member opening past → IsBroughtBehind member past since inputs landed

-- In some lawful state of the node, behind the past, its durable inputs are those since the opening; the packets are those
-- that it may release again then.
pub record IsWindowBehind (member : Member) (past since : List Input) (list : List Packet) : Type 0 where
  pub state : NodeState
  pub lawful : IsLawfulState member (shifted past state)
  pub durable : durable_in (shifted past state) ≡ past ++ since
  pub packets : list ≡ window member.node (past ++ since)

-- so it is whatever past of the node the opening is of
abbrev pub IsWindow : Member → Summary → List Input → List Packet → Type 0
IsWindow member opening since list = (past : List Input) → IsPast member opening past → IsWindowBehind member past since list

-- what is known of room at a node: whether a checkpoint is due, whether one frees some, and whether one is to make some
pub record Room : Type 0 where
  pub is_due : Bool
  pub frees : Bool
  pub is_coming : Bool

-- what is shown of a node in this state, of whose room this is known, and that takes requests or takes none
abbrev pub look_of : Member → NodeState → Room → Bool → Look
look_of member s room is_open = record {
  shown = shown_in member.node s;
  used = used (launched_base s) s.inputs;
  snapshot = snapshot_len newest (summary member.node s.inputs);
  epoch = s.base.epoch;
  layout = s.base.layout;
  capacity = member.capacity;
  stands = stands s.inputs;
  floors = fin.len (floors_in s.inputs);
  is_due = room.is_due;
  frees_room = room.frees;
  is_room_coming = room.is_coming;
  is_open = is_open;
}

-- a desk of a node in this state since its opening: nothing else of its own desk says what is known of its room
abbrev pub desk_in : Member → Summary → NodeState → DeskKept
desk_in member opening s = record {
  opening = opening;
  view = record { member = member; run = 0; state = s; tickets = []; issued = 0; closed = false; failed = false };
  gone = 0;
}

-- what is known of the room of a desk, of which a checkpoint is wanted or is not
abbrev pub room_of : Bool → DeskKept → Room
room_of is_wanted desk = record { is_due = is_due desk; frees = frees_room desk; is_coming = is_to_make_room is_wanted desk }

-- what is shown of a desk, of which a checkpoint is wanted or is not, by what it knows
abbrev pub look_at : Bool → DeskKept → Look
look_at is_wanted desk = record {
  shown = shown_all desk;
  used = used (launched_base desk.view.state) desk.view.state.inputs;
  snapshot = snapshot_len newest (known_all desk);
  epoch = desk.view.state.base.epoch;
  layout = desk.view.state.base.layout;
  capacity = desk.view.member.capacity;
  stands = (known_all desk).stands;
  floors = fin.len (known_all desk).floors;
  is_due = is_due desk;
  frees_room = frees_room desk;
  is_room_coming = is_to_make_room is_wanted desk;
  is_open = not (is_over desk);
}

abbrev pub room_in : Look → Room
room_in look = record { is_due = look.is_due; frees = look.frees_room; is_coming = look.is_room_coming }

-- This is what is shown of the node in some state since its opening: how many inputs it has and how many are durable,
-- those that are summarised among them, and the bytes that are taken. Behind each past that the opening is of the state
-- is lawful, and all is shown of that.
pub record IsLook (member : Member) (opening : Summary) (look : Look) : Type 0 where
  pub state : NodeState
  pub known : IsKnownState member opening state
  pub inputs : look.shown.inputs ≡ opening.inputs + length state.inputs
  pub durable : look.shown.durable ≡ opening.inputs + state.durable
  pub used_is : look.used ≡ used (launched_base state) state.inputs
  pub epoch : look.epoch ≡ state.base.epoch
  pub capacity : look.capacity ≡ member.capacity
  pub is_wanted : Bool
  pub room : room_in look ≡ room_of is_wanted (desk_in member opening state)
  pub lawful : (past : List Input) → IsPast member opening past → IsLawfulState member (shifted past state)
  pub is : (past : List Input) → IsPast member opening past → look ≡ look_of member (shifted past state) (room_in look) look.is_open
