-- What a reader is fed of a device, and what it makes of the area there. The first byte of an area is its gate's.
use Rattle.std.specs.Prelude.{◌≡◌, ◌⊎◌, ◌+◌, ◌-◌, ◌≤◌, ℕ, List, length, take, drop, Result, Ok}
use Rattle.ring_records.specs.declared.input.Input.{Input}
use Rattle.ring_records.specs.declared.refusal.Refusal.{Refusal}
use Rattle.ring_records.specs.declared.refusal.Refusal.TheVariants.{Damaged, OutOfMemory}
use Rattle.ring_records.specs.declared.summary.Summary.{Summary}
use Rattle.gated_journal.specs.Pieces.{Pieces, IsAreaRead, IsAreaDamaged}
use Rattle.gated_journal.specs.declared.area_reader.Fed.{Fed}
use Rattle.gated_journal.specs.declared.area_reader.Fed.TheVariants.{Done}

-- A reader of the area of this layout at `start` that was fed the image's bytes up to `end`, and what it makes of them.
abbrev pub fed_to : ℕ → ℕ → ℕ → List ℕ → ℕ → Result Fed Refusal → Pieces
fed_to layout n start image end answer = record { offset = start; layout = layout; n = n; bytes = take (end - start) (drop start image); answer = answer }

-- It was fed all that it asked for.
pub record IsFed (layout n start : ℕ) (image : List ℕ) (reader : Pieces) : Type 0 where
  pub end : ℕ
  pub from : start ≤ end
  pub to : end ≤ length image
  pub is : reader ≡ fed_to layout n start image end reader.answer
  pub whole : (reader.answer ≡ Ok Done) ⊎ (end ≡ length image)

-- The area is read as this summary and these inputs, and its closed gate is at `gate_at` in the image.
pub record IsAreaAt (layout n start : ℕ) (image : List ℕ) (s : Summary) (inputs : List Input) (gate_at : ℕ) : Type 0 where
  pub at : ℕ
  pub gate_is : gate_at ≡ start + at
  pub read : IsAreaRead layout n (drop start image) s inputs at

-- The area gives nothing: it is damaged, or there is no memory for what it holds.
pub record IsContentless (layout n start : ℕ) (image : List ℕ) (refusal : Refusal) : Type 0 where
  pub cause : (refusal ≡ OutOfMemory) ⊎ ((at : ℕ) × ((refusal ≡ Damaged (start + at)) × IsAreaDamaged layout n (drop start image) at))
