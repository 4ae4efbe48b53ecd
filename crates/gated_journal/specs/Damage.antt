-- Why no area of an image is read: the first fault, with its offset.
use Rattle.std.specs.Prelude.{◌≡◌, ◌⊎◌, ◌+◌, ◌<◌, ◌≤◌, ℕ, List, [], ◌∷◌, ◌++◌, length, drop}
use Rattle.ring_records.specs.declared.input.Input.{Input}
use Rattle.ring_records.specs.declared.refusal.Refusal.{Refusal}
use Rattle.ring_records.specs.declared.refusal.Refusal.TheVariants.{Damaged}
use Rattle.ring_records.specs.declared.summary.Summary.{Summary}
use Rattle.ring_records.specs.Admission.{epochs}
use Rattle.ring_records.specs.Snapshot.{Spells}
use Rattle.gated_journal.specs.Areas.{area_a, head_len, AreAreas, layout_at, epoch_at, frames_of, snapshot_at, HasBase}
use Rattle.gated_journal.specs.Choose.{IsChosen, IsUnchosen, IsPlainly}
use Rattle.gated_journal.specs.Frames.{body, frames, joined, IsBatch, AreBatches, ReadsTo}
use Rattle.gated_journal.specs.Reading.{Reading}

-- ---- the frames

-- from this offset on there are frames of these inputs, up to `gate_at`
pub record ReadsUpTo (layout offset : ℕ) (image : List ℕ) (inputs : List Input) (gate_at : ℕ) : Type 0 where
  pub batches : List (List Input)
  pub whole : drop offset image ≡ frames batches ++ drop gate_at image
  pub sized : AreBatches layout batches
  pub same : inputs ≡ joined batches
  pub ends : gate_at ≡ offset + length (frames batches)

-- no frame stands at the head of these bytes
abbrev pub NoFrame : ℕ → List ℕ → Type 0
NoFrame layout tail = (batch : List Input) (rest : List ℕ) → IsBatch layout batch → tail ≡ body batch ++ rest → ⊥

-- There are frames up to `gate_at`, and there no byte, or an open gate with no frame behind it.
pub record IsDamagedAt (layout offset : ℕ) (image : List ℕ) (gate_at : ℕ) : Type 0 where
  pub inputs : List Input
  pub up_to : ReadsUpTo layout offset image inputs gate_at
  pub broken : (drop gate_at image ≡ []) ⊎ ((tail : List ℕ) × ((drop gate_at image ≡ 1 ∷ tail) × NoFrame layout tail))

-- the refusal says where they are damaged
pub record IsBroken (layout offset : ℕ) (image : List ℕ) (refusal : Refusal) : Type 0 where
  pub gate_at : ℕ
  pub is : refusal ≡ Damaged gate_at
  pub damaged : IsDamagedAt layout offset image gate_at

-- ---- the areas

-- the bytes of the area are short, its epoch is too great, or its snapshot is of no summary of a ring of n
abbrev pub IsHeadBroken : ℕ → ℕ → List ℕ → Type 0
IsHeadBroken n start image =
    (length image < frames_of start image)
    ⊎ ((epochs ≤ epoch_at start image) ⊎ ((s : Summary) → Spells (layout_at start image) n (snapshot_at start image) s → ⊥))

-- frames from this offset on end behind this bound
pub record GoesPast (layout bound offset : ℕ) (image : List ℕ) : Type 0 where
  pub inputs : List Input
  pub gate_at : ℕ
  pub frames : ReadsTo layout offset image inputs gate_at
  pub past : bound < gate_at

-- the head of the area is whole, and its frames are broken or take more than the capacity
pub record AreFramesBroken (n capacity start : ℕ) (image : List ℕ) (refusal : Refusal) : Type 0 where
  pub reading : Reading
  pub offset : ℕ
  pub base : HasBase n start image reading offset
  pub cause : IsBroken reading.layout offset image refusal ⊎ ((refusal ≡ Damaged start) × GoesPast reading.layout (start + head_len + capacity) offset image)

-- the area that is read is broken, in its head or in its frames
pub record IsAreaBroken (n capacity : ℕ) (image : List ℕ) (refusal : Refusal) : Type 0 where
  pub start : ℕ
  pub other : ℕ
  pub areas : AreAreas capacity start other
  pub area : IsChosen start other image
  pub cause : ((refusal ≡ Damaged start) × IsHeadBroken n start image) ⊎ AreFramesBroken n capacity start image refusal

-- the frames that are read alone are broken, or take more than the capacity
pub record IsPlainBroken (capacity : ℕ) (image : List ℕ) (refusal : Refusal) : Type 0 where
  pub plainly : IsPlainly capacity image
  pub cause : IsBroken 1 area_a image refusal ⊎ ((refusal ≡ Damaged area_a) × GoesPast 1 (area_a + head_len + capacity) area_a image)

-- no area is read, nor frames alone, or what is read is broken
pub record AreAreasUnread (n capacity : ℕ) (image : List ℕ) (refusal : Refusal) : Type 0 where
  pub cause : ((refusal ≡ Damaged area_a) × IsUnchosen capacity image × (IsPlainly capacity image → ⊥)) ⊎ (IsAreaBroken n capacity image refusal ⊎ IsPlainBroken capacity image refusal)
