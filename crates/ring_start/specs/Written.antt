-- That all that a node releases stands on bytes that this process wrote.
use Rattle.std.specs.Prelude.{◌≡◌, ◌+◌, ◌⊎◌, ℕ, Bool, true, false, if◌then◌else◌, nat_lt, Some, List}
use Rattle.std.specs.List.{AllZip}
use Rattle.disk_model.specs.declared.device.Device.{Ghosts}
use Rattle.ring_records.specs.declared.refusal.Refusal.TheVariants as refused
use Rattle.ring_records.specs.Admission.{newest}
use Rattle.gated_journal.specs.Areas.{AllReadAs}
use Rattle.gated_journal.specs.Reading.{fresh_area}
use Rattle.group_commit.specs.Desk.{DeskKept, known_all}
use Rattle.group_commit.specs.Launching.{checkpoint_objection}
use Rattle.node_store.specs.Node.{member_of, device_of}
use Rattle.ring_start.specs.declared.found.Found.{Found}
use Rattle.ring_start.specs.declared.found.Found.TheVariants as found
use Rattle.ring_start.specs.declared.open_node.OpenNode.{OpenNode}
use Rattle.ring_start.specs.declared.ready.Ready.{Ready}
use Rattle.ring_start.specs.Fits.{kept_by, found_as}

-- the same node, with the same history behind each past
pub record GoesOn (old new : DeskKept) : Type 0 where
  pub member : new.view.member ≡ old.view.member
  pub opening : new.opening ≡ old.opening
  pub inputs : new.view.state.inputs ≡ old.view.state.inputs

-- the epoch of the area in use
abbrev pub epoch_of : DeskKept → ℕ
epoch_of desk = desk.view.state.base.epoch

-- the area in use is of an earlier layout
abbrev pub is_of_old : DeskKept → Bool
is_of_old desk = nat_lt desk.view.state.base.layout newest

-- How many checkpoints a start makes of a node. One writes the area that is not in use; behind a second one no area is left
-- of an earlier layout, which an earlier program would take for what the node holds.
abbrev pub renewals : DeskKept → ℕ
renewals desk = if is_of_old desk then 2 else 1

-- no checkpoint can be made of it, since its journal may write no other area or its snapshot does not fit
abbrev pub IsBarred : DeskKept → Type 0
IsBarred desk = (checkpoint_objection desk ≡ Some refused.Limit) ⊎ (checkpoint_objection desk ≡ Some refused.Full)

module _ {D : Type 0} {g : Ghosts D} where
  -- Every image that a stop may leave reads as the summary of all that this desk accepted, in the area of this epoch.
  abbrev pub HoldsAll : ℕ → DeskKept → OpenNode D g → Type 0
  HoldsAll epoch desk opened = AllReadAs (member_of opened.node) (g.disk (device_of opened.node)) (fresh_area newest epoch (known_all desk))

  -- It made so many checkpoints.
  pub record IsRenewed (count : ℕ) (old new : OpenNode D g) : Type 0 where
    pub later : epoch_of (kept_by new) ≡ epoch_of (kept_by old) + count
    pub holds : HoldsAll (epoch_of (kept_by new)) (kept_by old) new

  -- It was made, or made the checkpoints of a start, or one behind which no other can be made: what it holds was written by
  -- this process.
  abbrev pub IsWritten : Found D g → OpenNode D g → Type 0
  IsWritten (found.There old) opened = IsRenewed (renewals (kept_by old)) old opened ⊎ (IsRenewed 1 old opened × IsBarred (kept_by opened))
  IsWritten (found.New new) opened = HoldsAll 1 new.desk opened

  -- No checkpoint can be made of it, and nothing was done to it.
  pub record IsUntouched (old new : OpenNode D g) : Type 0 where
    pub desk : kept_by new ≡ kept_by old
    pub device : device_of new.node ≡ device_of old.node
    pub objection : IsBarred (kept_by old)

  abbrev pub IsKept : Found D g → OpenNode D g → Type 0
  IsKept (found.There old) opened = IsUntouched old opened
  IsKept (found.New new) opened = ⊥

  -- its desk
  abbrev pub ready_as : Ready D g → DeskKept
  ready_as ready = kept_by ready.opened

  -- what one checkpoint makes of a node
  pub record IsTried (old : OpenNode D g) (ready : Ready D g) : Type 0 where
    pub goes_on : GoesOn (kept_by old) (kept_by ready.opened)
    pub written : ready.is_written ≡ true → IsRenewed 1 old ready.opened
    pub kept : ready.is_written ≡ false → IsUntouched old ready.opened

  -- what a start makes of a node that it found
  pub record IsReady (node : Found D g) (ready : Ready D g) : Type 0 where
    pub goes_on : GoesOn (found_as node) (kept_by ready.opened)
    pub written : ready.is_written ≡ true → IsWritten node ready.opened
    pub kept : ready.is_written ≡ false → IsKept node ready.opened

  -- the same of each node of a ring
  abbrev pub AreReady : List (Found D g) → List (Ready D g) → Type 0
  AreReady found ready = AllZip IsReady found ready
