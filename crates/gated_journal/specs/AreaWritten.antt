-- The bytes of an area that is written, and the area that a checkpoint replaces.
use Rattle.std.specs.Prelude.{◌≡◌, ◌≢◌, ◌⊎◌, ◌+◌, ◌==◌, ◌&&◌, ◌<◌, ◌≤◌, ℕ, Bool, true, false, if◌then◌else◌, List, [], ◌∷◌, ◌++◌, length, slice_index}
use Rattle.std.specs.Int.{w32, w64, to_be_bytes}
use Rattle.ring_records.specs.declared.summary.Summary.{Summary}
use Rattle.ring_records.specs.Admission.{epochs, newest}
use Rattle.ring_records.specs.Member.{Member}
use Rattle.ring_records.specs.Snapshot.{Spells, snapshot_of, snapshot_len}
use Rattle.ring_records.specs.Summary.{empty}
use Rattle.gated_journal.specs.Frames.{ReadsTo, body, IsBatch}
use Rattle.gated_journal.specs.Reading.{Reading, mark}
use Rattle.gated_journal.specs.Areas.{HasBase, ReadsAt}
use Rattle.disk_model.specs.Calls.{Changes}
use Rattle.ring_records.specs.declared.input.Input.{Input}

-- the bytes behind the gate of an area without frames, and its closed gate
abbrev pub new_area : ℕ → ℕ → Summary → List ℕ
new_area layout epoch s = layout ∷ to_be_bytes w64 epoch ++ to_be_bytes w32 (snapshot_len layout s) ++ snapshot_of layout s ++ 0 ∷ []

-- the same with zeros in place of the layout and the epoch
abbrev pub blank_area : ℕ → Summary → List ℕ
blank_area layout s = 0 ∷ 0 ∷ 0 ∷ 0 ∷ 0 ∷ 0 ∷ 0 ∷ 0 ∷ 0 ∷ to_be_bytes w32 (snapshot_len layout s) ++ snapshot_of layout s ++ 0 ∷ []

-- a device without inputs: a header, and area A
abbrev pub new_areas : Member → List ℕ
new_areas header = mark ++ header.node ∷ header.n ∷ to_be_bytes w32 header.capacity ++ 0 ∷ 0 ∷ 1 ∷ new_area newest 1 empty

-- a moment of the opening of the other area: what was read before is read, or that area, whose closed gate is at `next`
abbrev pub ReadsAtOneOf : Member → Reading → ℕ → ℕ → ℕ → ℕ → Reading → ℕ → List ℕ → Type 0
ReadsAtOneOf header old start other offset gate_at new next image = ReadsAt header image old start other offset gate_at ⊎ ReadsAt header image new other start next next

-- What is known of its gate: it is there and closed, or it is open if it is there.
pub record IsGate (is_closed : Bool) (other : ℕ) (image : List ℕ) : Type 0 where
  pub shut : is_closed ≡ true → (other < length image) × (slice_index image other ≢ 1)
  pub not_shut : is_closed ≡ false → other < length image → slice_index image other ≡ 1

-- whether it is known so of an area that a checkpoint leaves: it is closed where frames were read plainly, and there were
-- none
abbrev pub leaves_closed : ℕ → ℕ → ℕ → Bool
leaves_closed layout start gate_at = layout == 1 && gate_at == start

-- where a checkpoint writes its first 0: to the gate, or behind one that is closed already
abbrev pub first_write : Bool → ℕ → ℕ
first_write is_closed other = if is_closed then other + 1 else other

-- behind its gate stands all of a new area, which is read once the gate is open
pub record IsStaged (n other : ℕ) (image : List ℕ) (r : Reading) (offset : ℕ) : Type 0 where
  pub there : other < length image
  pub base : HasBase n other image r offset
  pub frames : ReadsTo r.layout offset image r.inputs offset

-- The other area may be replaced by that of s in this epoch: the image is read at these places in a lesser one, and the
-- snapshot is sound and fits the capacity.
pub record MayReplace (header : Member) (image : List ℕ) (old : Reading) (start other offset gate_at : ℕ) (is_closed : Bool) (epoch : ℕ) (s : Summary) : Type 0 where
  pub reads : ReadsAt header image old start other offset gate_at
  pub gate : IsGate is_closed other image
  pub newer : old.epoch < epoch
  pub small : epoch < epochs
  pub spells : Spells newest header.n (snapshot_of newest s) s
  pub fits : snapshot_len newest s ≤ header.capacity

-- the bytes are the batch's frame behind its gate, and the next gate, which is closed
pub record IsFrame (layout : ℕ) (batch : List Input) (bytes : List ℕ) : Type 0 where
  pub is_batch : IsBatch layout batch
  pub bytes_are : bytes ≡ body batch ++ 0 ∷ []

-- A moment of a commit of n bytes behind the gate at this offset: the frames have the batch or not, and no byte outside
-- the gate and the n bytes behind it has changed.
pub record Appends (layout offset : ℕ) (inputs batch : List Input) (gate_at n : ℕ) (old new : List ℕ) : Type 0 where
  pub frames : ReadsTo layout offset new inputs gate_at ⊎ ReadsTo layout offset new (inputs ++ batch) (gate_at + n)
  pub changes : Changes gate_at (1 + n) old new
