-- The rounds of a flusher since its node was split, one after the other, and what a stop leaves of its device.
use Rattle.std.specs.Prelude.{ℕ, ◌≡◌, ◌≤◌, Bool, List, [], ◌∷◌, ◌++◌, length, take, drop, Option, Some}
use Rattle.std.specs.List.{Contains}
use mathlib.Core.List.{IsPrefix}
use Rattle.disk_model.specs.declared.device.Device.{Ghosts}
use Rattle.disk_model.specs.Disk.{Disk, LeavesOnly}
use Rattle.ring_records.specs.declared.decision.Decision.{Decision}
use Rattle.ring_records.specs.declared.input.Input.{Input}
use Rattle.ring_records.specs.declared.notice.Notice.TheVariants.{Decided}
use Rattle.ring_records.specs.declared.summary.Summary.{Summary}
use Rattle.ring_records.specs.Known.{after}
use Rattle.ring_records.specs.Leader.{first_leader}
use Rattle.ring_records.specs.Lists.{EachAfter}
use Rattle.ring_records.specs.Member.{Member}
use Rattle.ring_records.specs.Release.{packets, notices}
use Rattle.ring_records.specs.States.{NodeState, left_by}
use Rattle.ring_records.specs.Lawful.{IsNodeState}
use Rattle.gated_journal.specs.Areas.{AllReadAs}
use Rattle.gated_journal.specs.Reading.{Reading}
use Rattle.group_commit.specs.declared.landed.Landed.{Landed}
use Rattle.group_commit.specs.Desk.{DeskKept}
use Rattle.group_commit.specs.Past.{IsPast, shifted}
use Rattle.node_store.specs.State.{Holds, IsLeft, MayBeLeft, durable_held, opened_view}
use Rattle.group_commit.specs.Next.{Durable, IsLawfulBehind}
use Rattle.ring_service.specs.Rounds.{IsRound, at_rest, known_behind, with_flying}

-- ---- the rounds

-- A round: the inputs that it made durable, the summary by which it did where it was a checkpoint, what it let the node
-- release, and the device behind it.
pub record Round (V : Type 0) : Type 0 where
  pub inputs : List Input
  pub base : Option Summary
  pub landed : Landed
  pub device : V

-- the device behind these rounds, which was this one before them
abbrev pub device_behind : {V : Type 0} → V → List (Round V) → V
device_behind device [] = device
device_behind device (round ∷ rounds) = device_behind round.device rounds

-- what is known to be durable behind these rounds, where this was known before them
abbrev pub known_since : {V : Type 0} → Durable → List (Round V) → Durable
known_since known [] = known
known_since known (round ∷ rounds) = known_since (known_behind round.base round.inputs known) rounds

-- the inputs that these rounds made durable, in order
abbrev pub inputs_of : {V : Type 0} → List (Round V) → List Input
inputs_of [] = []
inputs_of (round ∷ rounds) = round.inputs ++ inputs_of rounds

-- what a flusher that has this device, and knows this to be durable, tells of a round is that it was this one
pub record IsRoundOf {V : Type 0} (g : Ghosts V) (member : Member) (opening : Summary)
    (device : V) (known : Durable) (round : Round V) : Type 0 where
  pub is : IsRound g member opening device round.device known (known_behind round.base round.inputs known) round.landed
  pub inputs : is.inputs ≡ round.inputs
  pub base : is.base ≡ round.base

-- each of these is a round of the flusher behind those before it, which had this device at first, and knew this
abbrev pub AreRounds : {V : Type 0} → Ghosts V → Member → Summary → V → Durable → List (Round V) → Type 0
AreRounds g member opening device known rounds =
    EachAfter (λ before round. IsRoundOf g member opening (device_behind device before) (known_since known before) round) [] rounds

-- ---- what the journal holds

-- of what is known to be durable: the summary of the opening and of the first inputs since, as many as the area in use
-- stands for, and the others behind it
abbrev pub held_by : Member → Summary → Durable → Reading
held_by member opening known = record {
  layout = known.base.layout;
  epoch = known.base.epoch;
  base = after member.node opening (take known.base.inputs known.inputs);
  inputs = drop known.base.inputs known.inputs;
}

-- Every image that a stop may leave of the disk reads as that; and behind each past that the opening is of, that is lawful.
pub record IsHeld (member : Member) (opening : Summary) (disk : Disk) (known : Durable) : Type 0 where
  pub read : AllReadAs member disk (held_by member opening known)
  pub based : known.base.inputs ≤ length known.inputs
  pub lawful : IsLawfulBehind member opening (at_rest known)

-- what `Node::split` gives of a desk, and of the disk of its journal
pub record IsSplit (desk : DeskKept) (disk : Disk) : Type 0 where
  pub counts : IsNodeState desk.view.state
  pub lawful : IsLawfulBehind desk.view.member desk.opening desk.view.state
  pub durable : AllReadAs desk.view.member disk (durable_held desk)

-- ---- what a stop leaves

-- the node's desk in this state since its opening, without tickets
abbrev pub desk_in : Member → Summary → NodeState → DeskKept
desk_in member opening s = record { opening = opening; view = opened_view member 0 s; gone = 0 }

-- A stop may have left this image of the node, with all that the first of these rounds made durable, so many of them, behind
-- what was known before.
pub record IsLeftBehind {V : Type 0} (member : Member) (opening : Summary) (known : Durable) (rounds : List (Round V)) (image : List ℕ) : Type 0 where
  pub count : ℕ
  pub within : count ≤ length rounds
  pub left : MayBeLeft (desk_in member opening (at_rest (known_since known (take count rounds)))) image

-- At any moment from the old device to the new one a stop leaves of the node what is known to be durable, or also these
-- inputs, which fly; and so it does now.
pub record IsCut {V : Type 0} (g : Ghosts V) (member : Member) (opening : Summary)
    (old new : V) (known : Durable) : Type 0 where
  pub inputs : List Input
  pub base : Option Summary
  pub any_moment : LeavesOnly g.clock g.left_since old new (MayBeLeft (desk_in member opening (with_flying known inputs base)))
  pub lawful : IsLawfulBehind member opening (with_flying known inputs base)
  pub holds : (past : List Input) → IsPast member opening past → Holds member (g.disk new) (shifted past (with_flying known inputs base))

-- ---- what was released

-- Behind the past and the inputs since, which were durable before it, the round made its own durable. What it let the node
-- release is told by these, and whatever the image is opened as begins with all of them; so each leader that it made known
-- is the first one of its key by what is opened.
pub record RestsOnBehind {V : Type 0} (member : Member) (past since : List Input) (round : Round V) (image : List ℕ) : Type 0 where
  pub state : NodeState
  pub left : IsLeft member state image
  pub begins : (keep : Bool) → IsPrefix ((past ++ since) ++ round.inputs) (left_by keep state).inputs
  pub packets : round.landed.packets.items ≡ packets member.node (past ++ since) round.inputs
  pub notices : round.landed.notices.items ≡ notices member.node (past ++ since) round.inputs
  pub leaders : (keep : Bool) (d : Decision) → Contains round.landed.notices.items (Decided d) → first_leader member.node (left_by keep state).inputs d.key ≡ Some d.leader

-- so it is whatever past of the node the opening is of
abbrev pub RestsOn : {V : Type 0} → Member → Summary → Durable → Round V → List ℕ → Type 0
RestsOn member opening known round image = (past : List Input) → IsPast member opening past → RestsOnBehind member past known.inputs round image
