-- What a node holds on its device, and what a stop leaves of it.
use Rattle.std.specs.Prelude.{◌≡◌, ℕ, true, false, List, [], take, drop}
use Rattle.disk_model.specs.Disk.{Disk, MayLeave}
use Rattle.ring_records.specs.declared.base.Base.{Base}
use Rattle.ring_records.specs.declared.input.Input.{Input}
use Rattle.ring_records.specs.Known.{after}
use Rattle.ring_records.specs.Member.{Member}
use Rattle.ring_records.specs.States.{NodeState, launched_base, durable_in, flown_in, left_by}
use Rattle.ring_records.specs.Lawful.{IsLawfulState}
use Rattle.ring_records.specs.Summary.{summary}
use Rattle.gated_journal.specs.Areas.{ReadsAsOneOf}
use Rattle.gated_journal.specs.Reading.{Reading}
use Rattle.group_commit.specs.Desk.{DeskView, DeskKept, new_desk, seen}
use Rattle.group_commit.specs.Past.{IsPast}

-- ---- by what its desk keeps

-- what its journal holds as it is opened: the desk's opening, and all inputs since
abbrev pub all_held : DeskKept → Reading
all_held desk = record { layout = desk.view.state.base.layout; epoch = desk.view.state.base.epoch; base = desk.opening; inputs = desk.view.state.inputs }

-- What the area of this base holds with these inputs since the opening: a snapshot of all that its node knows by the first
-- of them, as many as the base stands for, and the others.
abbrev pub area_with : DeskKept → Base → List Input → Reading
area_with desk base inputs = record {
  layout = base.layout;
  epoch = base.epoch;
  base = after desk.view.member.node desk.opening (take base.inputs inputs);
  inputs = drop base.inputs inputs;
}

-- what its journal holds in the area in use, with the inputs that are durable; and what it holds once what flies is durable
-- too, a batch in this area or a checkpoint in the next
abbrev pub durable_held : DeskKept → Reading
durable_held desk = area_with desk desk.view.state.base (durable_in desk.view.state)

abbrev pub flown_held : DeskKept → Reading
flown_held desk = area_with desk (launched_base desk.view.state) (flown_in desk.view.state)

-- ---- by its history

-- what the journal of node me holds that is just opened in this state
abbrev pub reading_of : ℕ → NodeState → Reading
reading_of me s = record { layout = s.base.layout; epoch = s.base.epoch; base = summary me (take s.base.inputs s.inputs); inputs = drop s.base.inputs s.inputs }

-- the image reads as what stands for the durable inputs, or for those that are durable or fly
abbrev pub ReadsAsLeft : Member → NodeState → List ℕ → Type 0
ReadsAsLeft m s image = ReadsAsOneOf m (reading_of m.node (left_by false s)) (reading_of m.node (left_by true s)) image

-- every image that a stop may leave reads so
abbrev pub Holds : Member → Disk → NodeState → Type 0
Holds m disk s = (image : List ℕ) → MayLeave disk image → ReadsAsLeft m s image

-- a stop may have left this image of this node, in this state, which is lawful
pub record IsLeft (m : Member) (s : NodeState) (image : List ℕ) : Type 0 where
  pub lawful : IsLawfulState m s
  pub reads : ReadsAsLeft m s image

-- A stop may have left this image of the node of this desk: it reads as what the journal holds with the durable inputs, or
-- also with what flies. Where the desk's opening is the summary of a past, this is so of its whole history.
pub record MayBeLeft (desk : DeskKept) (image : List ℕ) : Type 0 where
  pub read : ReadsAsOneOf desk.view.member (durable_held desk) (flown_held desk) image
  pub left : (past : List Input) → IsPast desk.view.member desk.opening past → IsLeft desk.view.member (seen past desk).state image

-- what a desk shows that was just opened in this state
abbrev pub opened_view : Member → ℕ → NodeState → DeskView
opened_view m run s = record { member = m; run = run; state = s; tickets = []; issued = 0; closed = false; failed = false }

-- The desk was just opened with what the journal holds in this state, and shows it: its opening is the summary of the inputs
-- that the base stands for.
pub record IsOpenedAs (m : Member) (run : ℕ) (s : NodeState) (desk : DeskKept) : Type 0 where
  pub kept : desk ≡ new_desk m run (reading_of m.node s)
  pub past : IsPast m desk.opening (take s.base.inputs s.inputs)
  pub shows : seen (take s.base.inputs s.inputs) desk ≡ opened_view m run s
