-- Frames of inputs, by the layout of their area, and what is read behind an offset. Numbers are big-endian.
use Rattle.std.specs.Prelude.{◌≡◌, ◌≢◌, ◌+◌, ◌≤◌, ℕ, true, List, [], ◌∷◌, ◌++◌, length, drop}
use Rattle.std.specs.Int.{w16, w32, to_be_bytes}
use Rattle.std.specs.List.{AllByRecursion}
use Rattle.ring_records.specs.declared.input.Input.{Input}
use Rattle.ring_records.specs.declared.input.Input.TheVariants.{Stand, Take, Acked, Retire}
use Rattle.ring_records.specs.declared.limits.TheConstants.{BATCH_INPUTS}
use Rattle.ring_records.specs.Admission.{has_floors}
use Rattle.ring_records.specs.Record.{HasRecord, record_of}

-- ---- how frames are spelled

-- the records of the inputs, one behind the other
abbrev pub records : List Input → List ℕ
records [] = []
records (x ∷ inputs) = record_of x ++ records inputs

-- a frame behind its gate: count, length, records
abbrev pub body : List Input → List ℕ
body inputs = to_be_bytes w16 (length inputs) ++ (to_be_bytes w32 (length (records inputs)) ++ records inputs)

-- a frame of each batch, behind an open gate
abbrev pub frames : List (List Input) → List ℕ
frames [] = []
frames (batch ∷ batches) = 1 ∷ (body batch ++ frames batches)

-- The frames of an area of this layout may hold the input: a Retire where the area's snapshot tells floors.
abbrev pub Suits : ℕ → Input → Type 0
Suits layout (Stand key bid) = Unit {0}
Suits layout (Take msg_no msg) = Unit {0}
Suits layout (Acked upto) = Unit {0}
Suits layout (Retire group new) = has_floors layout ≡ true

-- they may hold each of these
abbrev pub AreSuited : ℕ → List Input → Type 0
AreSuited layout inputs = AllByRecursion (Suits layout) inputs

abbrev pub HaveRecords : ℕ → List Input → Type 0
HaveRecords layout [] = Unit {0}
HaveRecords layout (x ∷ inputs) = (HasRecord x × Suits layout x) × HaveRecords layout inputs

-- 1 to 64 inputs that have records in this layout
pub record IsBatch (layout : ℕ) (inputs : List Input) : Type 0 where
  pub some : 1 ≤ length inputs
  pub few : length inputs ≤ BATCH_INPUTS
  pub have : HaveRecords layout inputs

abbrev pub AreBatches : ℕ → List (List Input) → Type 0
AreBatches layout [] = Unit {0}
AreBatches layout (batch ∷ batches) = IsBatch layout batch × AreBatches layout batches

-- all inputs, in order
abbrev pub joined : List (List Input) → List Input
joined [] = []
joined (batch ∷ batches) = batch ++ joined batches

-- ---- how they are read

-- From this offset on there are frames of these inputs, in this layout, and then, at `gate_at`, one byte that is not 1: a closed gate.
-- Nothing is said of the bytes before the offset, nor of those behind the gate.
pub record ReadsTo (layout offset : ℕ) (image : List ℕ) (inputs : List Input) (gate_at : ℕ) : Type 0 where
  pub batches : List (List Input)
  pub gate : ℕ
  pub after : List ℕ
  pub whole : drop offset image ≡ frames batches ++ gate ∷ after
  pub sized : AreBatches layout batches
  pub closed : gate ≢ 1
  pub same : inputs ≡ joined batches
  pub ends : gate_at ≡ offset + length (frames batches)
