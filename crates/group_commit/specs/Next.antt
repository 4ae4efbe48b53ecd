-- What a desk launches next.
use Rattle.std.specs.Prelude.{ℕ, ◌≡◌, ◌+◌, ◌-◌, ◌*◌, ◌<◌, ◌≤◌, ◌⊎◌, ◌&&◌, ◌||◌, Bool, List, ◌++◌, length, Option, Some}
use Rattle.std.specs.Option.{option_map}
use Rattle.ring_records.specs.declared.base.Base.{Base}
use Rattle.ring_records.specs.declared.input.Input.{Input}
use Rattle.ring_records.specs.declared.summary.Summary.{Summary}
use Rattle.ring_records.specs.Admission.{costs_of, newest, used}
use Rattle.ring_records.specs.Known.{after}
use Rattle.ring_records.specs.Member.{Member}
use Rattle.ring_records.specs.Snapshot.{IsSound, snapshot_len}
use Rattle.ring_records.specs.States.{NodeState, durable_in}
use Rattle.ring_records.specs.Lawful.{IsLawfulState}
use Rattle.gated_journal.specs.declared.checkpoint.Checkpoint.{Checkpoint}
use Rattle.gated_journal.specs.declared.work.Work.{Work}
use Rattle.gated_journal.specs.declared.work.Work.TheVariants as works
use Rattle.gated_journal.specs.Batch.{Numbered, numbered_by, base_by, shown}
use Rattle.gated_journal.specs.Frames.{AreSuited}
use Rattle.node_core.specs.Core.{IsNodeOf}
use Rattle.group_commit.specs.Desk.{DeskKept, epochs, frees_room, is_due}
use Rattle.group_commit.specs.Past.{IsPast, shifted}

-- what is durable of a desk: the area in use, and the inputs since its opening
pub record Durable : Type 0 where
  pub base : Base
  pub inputs : List Input

abbrev pub durable_part : DeskKept → Durable
durable_part desk = record { base = desk.view.state.base; inputs = durable_in desk.view.state }

-- these inputs more are durable, in the same area
abbrev pub with_batch : Durable → List Input → Durable
with_batch d inputs = record d { inputs = d.inputs ++ inputs }

-- these inputs more are durable, in the next area, whose snapshot has so many bytes and stands for all
abbrev pub with_area : Durable → List Input → ℕ → Durable
with_area d inputs bytes = record {
  base = record { layout = newest; epoch = d.base.epoch + 1; inputs = length (d.inputs ++ inputs); bytes = bytes };
  inputs = d.inputs ++ inputs;
}

-- ---- while it flies

-- the state since its opening of a node of which these inputs fly behind what is known to be durable: as a batch, or as a
-- checkpoint whose snapshot has so many bytes
abbrev pub flying_behind : Durable → List Input → Option ℕ → NodeState
flying_behind d inputs bytes = record {
  inputs = d.inputs ++ inputs;
  durable = length d.inputs;
  flying = length (d.inputs ++ inputs);
  base = d.base;
  checkpoint = option_map (λ k. (with_area d inputs k).base) bytes;
}

-- a state since the opening is lawful behind each past that the opening is of
abbrev pub IsLawfulBehind : Member → Summary → NodeState → Type 0
IsLawfulBehind m opening s = (past : List Input) → IsPast m opening past → IsLawfulState m (shifted past s)

-- so is that while these fly
abbrev pub FliesLawfully : Member → Summary → Durable → Numbered → Type 0
FliesLawfully m opening known flown = IsLawfulBehind m opening (flying_behind known flown.inputs flown.snapshot)

-- ---- for a journal of the node that has so much durable

-- It may commit the batch, which the area in use may hold.
pub record IsNextBatch (m : Member) (opening : Summary) (known : Durable) (batch : Numbered) : Type 0 where
  pub node : batch.node ≡ m.node
  pub first : batch.first ≡ opening.inputs + length known.inputs
  pub room : used known.base known.inputs + costs_of batch.inputs ≤ m.capacity
  pub suits : AreSuited known.base.layout batch.inputs
  pub lawful : FliesLawfully m opening known batch

-- It may make the checkpoint, where the node is one of the ring: its summary is that of all, whose snapshot fits the capacity,
-- and an epoch is left. It is due, since what is taken, with the inputs, is more than half of the capacity, and the snapshot
-- takes a quarter at most; or it frees a sixteenth of the capacity at least; or the area in use is of an earlier layout, which
-- can't hold all of the inputs.
pub record IsNextCheckpoint (m : Member) (opening : Summary) (known : Durable) (made : Checkpoint) : Type 0 where
  pub node : (numbered_by made).node ≡ m.node
  pub first : (numbered_by made).first ≡ opening.inputs + length known.inputs
  pub snapshot : (numbered_by made).snapshot ≡ Some (snapshot_len newest (base_by made))
  pub summary : base_by made ≡ after m.node opening (known.inputs ++ (numbered_by made).inputs)
  pub why : (m.capacity < 2 * (used known.base known.inputs + costs_of (numbered_by made).inputs)) × (4 * snapshot_len newest (base_by made) ≤ m.capacity)
      ⊎ ((m.capacity ≤ 16 * (used known.base known.inputs + costs_of (numbered_by made).inputs - snapshot_len newest (base_by made)))
      ⊎ (known.base.layout < newest))
  pub fits : snapshot_len newest (base_by made) ≤ m.capacity
  pub sound : IsNodeOf m.n m.node → IsSound m.n (base_by made)
  pub left : known.base.epoch + 1 < epochs
  pub lawful : FliesLawfully m opening known (numbered_by made)

-- It may take either.
abbrev pub IsNext : Member → Summary → Durable → Work → Type 0
IsNext m opening known (works.Batch batch) = IsNextBatch m opening known (shown batch)
IsNext m opening known (works.Checkpoint made) = IsNextCheckpoint m opening known made

-- ---- by the desk

-- a checkpoint is to make room: one is due, or is wanted and frees some
abbrev pub is_to_make_room : Bool → DeskKept → Bool
is_to_make_room is_wanted desk = is_due desk || is_wanted && frees_room desk
