-- An area whose bytes come in pieces. Offsets count from its gate, the first of them.
use Rattle.std.specs.Prelude.{◌≡◌, ◌≢◌, ◌⊎◌, ◌+◌, ◌*◌, ◌<◌, ◌≤◌, ℕ, List, [], ◌∷◌, ◌++◌, length, drop, slice_index, Result}
use Rattle.ring_records.specs.declared.input.Input.{Input}
use Rattle.ring_records.specs.declared.limits.TheConstants.{BATCH_INPUTS}
use Rattle.ring_records.specs.declared.refusal.Refusal.{Refusal}
use Rattle.ring_records.specs.declared.refusal.Refusal.TheVariants.{Damaged}
use Rattle.ring_records.specs.declared.summary.Summary.{Summary}
use Rattle.ring_records.specs.Admission.{epochs}
use Rattle.gated_journal.specs.Areas.{head_len, IsLayout, layout_at, epoch_at, frames_of, HasBase}
use Rattle.gated_journal.specs.Damage.{ReadsUpTo, IsDamagedAt, IsHeadBroken}
use Rattle.gated_journal.specs.Frames.{body, IsBatch, ReadsTo}
use Rattle.gated_journal.specs.Reading.{Reading, number_at}
use Rattle.gated_journal.specs.declared.area_reader.Fed.{Fed}

-- ---- what a reader shows

-- Where the gate stands in the device, the layout, the ring's size, the bytes that were fed, joined, and what it makes of
-- them.
pub record Pieces : Type 0 where
  pub offset : ℕ
  pub layout : ℕ
  pub n : ℕ
  pub bytes : List ℕ
  pub answer : Result Fed Refusal

abbrev pub with_piece : Pieces → List ℕ → Result Fed Refusal → Pieces
with_piece p piece answer = record p { bytes = p.bytes ++ piece; answer = answer }

-- ---- what bytes read as

-- a reading with this summary and these inputs, in the epoch that stands at the front of the bytes
abbrev pub reading_with : ℕ → List ℕ → Summary → List Input → Reading
reading_with layout bytes s inputs = record { layout = layout; epoch = epoch_at 0 bytes; base = s; inputs = inputs }

-- The bytes are an area of this layout, with this summary and these inputs, and its closed gate is at `gate_at`.
pub record IsAreaRead (layout n : ℕ) (bytes : List ℕ) (s : Summary) (inputs : List Input) (gate_at : ℕ) : Type 0 where
  pub gate : slice_index bytes 0 ≡ 1
  pub base : HasBase n 0 bytes (reading_with layout bytes s inputs) (frames_of 0 bytes)
  pub frames : ReadsTo layout (frames_of 0 bytes) bytes inputs gate_at

-- no area of this layout begins there: the gate is not open, the layout is another or not known, or the head is broken
abbrev pub IsNoArea : ℕ → ℕ → List ℕ → Type 0
IsNoArea layout n bytes = (slice_index bytes 0 ≢ 1) ⊎ ((layout_at 0 bytes ≢ layout) ⊎ ((IsLayout layout → ⊥) ⊎ IsHeadBroken n 0 bytes))

-- the area has a head, and its frames are damaged at this offset
pub record AreFramesDamaged (layout n : ℕ) (bytes : List ℕ) (at : ℕ) : Type 0 where
  pub base_of : Summary
  pub gate : slice_index bytes 0 ≡ 1
  pub base : HasBase n 0 bytes (reading_with layout bytes base_of []) (frames_of 0 bytes)
  pub damaged : IsDamagedAt layout (frames_of 0 bytes) bytes at

-- The bytes are no such area: they are damaged at this offset.
pub record IsAreaDamaged (layout n : ℕ) (bytes : List ℕ) (at : ℕ) : Type 0 where
  pub cause : ((at ≡ 0) × IsNoArea layout n bytes) ⊎ AreFramesDamaged layout n bytes at

-- A refusal tells of bytes that begin with those that were fed and this piece, whatever follows them.
pub record IsPieceDamaged (p : Pieces) (piece : List ℕ) (refusal : Refusal) : Type 0 where
  pub at : ℕ
  pub is : refusal ≡ Damaged (p.offset + at)
  pub damaged : (more : List ℕ) → IsAreaDamaged p.layout p.n ((p.bytes ++ piece) ++ more) at

-- ---- while more is asked for

-- The front of a frame, behind its gate: one of its two numbers is not there; or they are those of at most 64 inputs with
-- at most 35 bytes each, and one of these bytes is not there.
abbrev pub IsFrameFront : List ℕ → Type 0
IsFrameFront tail = (length tail < 6) ⊎ ((number_at 2 0 tail ≤ BATCH_INPUTS) × ((number_at 4 2 tail ≤ 35 * number_at 2 0 tail) × (length tail < 6 + number_at 4 2 tail)))

-- no byte, or an open gate and the front of a frame
abbrev pub IsNextFront : List ℕ → Type 0
IsNextFront behind = (behind ≡ []) ⊎ ((tail : List ℕ) × ((behind ≡ 1 ∷ tail) × IsFrameFront tail))

-- The head of an area of this layout is there, and not all of its snapshot, of which at most 37 bytes are kept.
pub record IsSnapshotFront (layout : ℕ) (bytes : List ℕ) (kept : ℕ) : Type 0 where
  pub gate : slice_index bytes 0 ≡ 1
  pub layout_is : layout_at 0 bytes ≡ layout
  pub known : IsLayout layout
  pub small : epoch_at 0 bytes < epochs
  pub ends : length bytes < frames_of 0 bytes
  pub there : head_len + kept ≤ length bytes
  pub few : kept ≤ 37

-- The head, the snapshot and whole frames are there. Behind them stand the bytes that are kept: none, or the front of a
-- frame with its gate.
pub record AreFramesFront (layout n : ℕ) (bytes : List ℕ) (kept : ℕ) : Type 0 where
  pub base_of : Summary
  pub inputs : List Input
  pub gate_at : ℕ
  pub gate : slice_index bytes 0 ≡ 1
  pub base : HasBase n 0 bytes (reading_with layout bytes base_of inputs) (frames_of 0 bytes)
  pub frames : ReadsUpTo layout (frames_of 0 bytes) bytes inputs gate_at
  pub front : IsNextFront (drop gate_at bytes)
  pub kept_is : gate_at + kept ≡ length bytes

-- The bytes are the front of such an area, as far as they were judged: all but the last of them, so many, which are kept
-- until the part that they begin is whole.
abbrev pub IsAreaFront : ℕ → ℕ → List ℕ → ℕ → Type 0
IsAreaFront layout n bytes kept = ((length bytes < head_len) × (kept ≡ length bytes)) ⊎ (IsSnapshotFront layout bytes kept ⊎ AreFramesFront layout n bytes kept)

-- ---- what the parts of the reader find

-- a frame at the head of these bytes, whatever follows them, does not go beyond them
abbrev pub IsEnough : List ℕ → Type 0
IsEnough tail = (layout : ℕ) (batch : List Input) (more rest : List ℕ) → IsBatch layout batch → tail ++ more ≡ body batch ++ rest → length (body batch) ≤ length tail
