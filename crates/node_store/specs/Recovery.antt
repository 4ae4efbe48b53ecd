-- What a node stands for that is opened again, and why it is not.
use Rattle.std.specs.Prelude.{◌≡◌, ◌⊎◌, ℕ, Bool, List, Result, IfOk, IfErr}
use Rattle.disk_model.specs.declared.device.Device.{Ghosts}
use Rattle.ring_records.specs.declared.refusal.Refusal.{Refusal}
use Rattle.ring_records.specs.declared.refusal.Refusal.TheVariants.{OutOfMemory}
use Rattle.ring_records.specs.Lawful.{IsLawfulState}
use Rattle.ring_records.specs.Member.{member}
use Rattle.ring_records.specs.Snapshot.{IsSound}
use Rattle.ring_records.specs.States.{NodeState, left_by}
use Rattle.gated_journal.specs.Areas.{AllReadAs, ReadsAs}
use Rattle.gated_journal.specs.Reading.{Reading}
use Rattle.gated_journal.specs.Unread.{IsFault, IsUnopened}
use Rattle.group_commit.specs.Desk.{core_of, new_desk}
use Rattle.group_commit.specs.Opening.{IsKnownLawful, IsUnlawful}
use Rattle.node_store.specs.declared.node.Node.{Node}
use Rattle.node_store.specs.Node.{desk_of, device_of, member_of, state_of}
use Rattle.node_store.specs.State.{Holds, IsLeft, IsOpenedAs, all_held}

-- the image reads as a journal of this node, and of the inputs behind its summary this one is the first that is not admitted
pub record IsNotLawful (node n : ℕ) (image : List ℕ) (why : Refusal) : Type 0 where
  pub capacity : ℕ
  pub reading : Reading
  pub reads : ReadsAs (member node n capacity) image reading
  pub unlawful : IsUnlawful (core_of (member node n capacity) reading) reading.inputs why

-- the image reads as a journal of this node, and memory for what it holds is not found
pub record IsShort (node n : ℕ) (image : List ℕ) (why : Refusal) : Type 0 where
  pub capacity : ℕ
  pub reading : Reading
  pub reads : ReadsAs (member node n capacity) image reading
  pub is : why ≡ OutOfMemory

-- the node's journal is not opened, or it is, and the node does not stand for what it holds
pub record IsUnrecovered (node n before now : ℕ) (image : List ℕ) (why : Refusal) : Type 0 where
  pub cause : IsUnopened node n before now image why ⊎ (IsNotLawful node n image why ⊎ IsShort node n image why)

-- no memory, or the device failed
abbrev pub IsShortOrFault : ℕ → ℕ → Refusal → Type 0
IsShortOrFault before now why = (why ≡ OutOfMemory) ⊎ IsFault before now why

module _ {D : Type 0} {g : Ghosts D} where
  -- It stands for all that its journal holds, a sound summary and lawful inputs behind it, which stood on the device at the
  -- start, and stands in every image that a stop may leave afterwards.
  pub record StandsForAll (node n run : ℕ) (old : D) (made : Node D g) : Type 0 where
    pub desk : desk_of made ≡ new_desk (member node n (member_of made).capacity) run (all_held (desk_of made))
    pub lawful : IsSound n (desk_of made).opening × IsKnownLawful (core_of (member_of made) (all_held (desk_of made))) (state_of made).inputs
    pub reads : ReadsAs (member_of made) (g.disk old).image (all_held (desk_of made))
    pub durable : AllReadAs (member_of made) (g.disk (device_of made)) (all_held (desk_of made))

  -- A node that was stopped stands again for its durable inputs, or also for those that flew. It is refused only where the device
  -- fails or memory is not found, and then the device holds what it held. The same of what is read alone, whatever a stop may leave:
  -- of a file that was just opened no more is known.
  pub record StandsAgain (node n run : ℕ) (old : D) (result : Result (Node D g) (D × Refusal)) : Type 0 where
    pub recovery : (capacity : ℕ) (s : NodeState) → IsLawfulState (member node n capacity) s → Holds (member node n capacity) (g.disk old) s
        → IfOk result (λ made. (keep : Bool) × IsOpenedAs (member node n capacity) run (left_by keep s) (desk_of made))
    pub recovery_err : (capacity : ℕ) (s : NodeState) → IsLawfulState (member node n capacity) s → Holds (member node n capacity) (g.disk old) s
        → IfErr result (λ e. IsShortOrFault (g.count old) (g.count e.0) e.1 × Holds (member node n capacity) (g.disk e.0) s)
    pub image : (capacity : ℕ) (s : NodeState) → IsLeft (member node n capacity) s (g.disk old).image
        → IfOk result (λ made. (keep : Bool) × IsOpenedAs (member node n capacity) run (left_by keep s) (desk_of made))
    pub image_err : (capacity : ℕ) (s : NodeState) → IsLeft (member node n capacity) s (g.disk old).image
        → IfErr result (λ e. IsShortOrFault (g.count old) (g.count e.0) e.1 × ((g.disk e.0).image ≡ (g.disk old).image))
