-- Which area is in use, as the parts of the reader find it: its head, and the gate of the other.
use Rattle.std.specs.Prelude.{◌≡◌, ◌⊎◌, ◌^◌, ◌<◌, ◌≤◌, ℕ, Bool, true, false, List, length, take, slice_index}
use Rattle.ring_records.specs.Admission.{epochs}
use Rattle.gated_journal.specs.Areas.{area_a, area_b, AreAreas, layout_at, epoch_at, size_at, frames_of}
use Rattle.gated_journal.specs.AreaWritten.{IsGate}
use Rattle.gated_journal.specs.Reading.{Reading, mark, old_mark}
use Rattle.gated_journal.specs.declared.area.Area.{Area}
use Rattle.gated_journal.specs.declared.area.Area.TheVariants.{A, B}
use Rattle.gated_journal.specs.declared.area.Chosen.{Chosen}
use Rattle.gated_journal.specs.declared.area.Head.{Head}
use Rattle.gated_journal.specs.declared.contents.Contents.{Contents}
use Rattle.gated_journal.specs.Choose.{IsChosen, IsPlainly}

-- the offset of an area, and that of the other one
abbrev pub start_of : ℕ → Area → ℕ
start_of capacity A = area_a
start_of capacity B = area_b capacity

abbrev pub other_of : ℕ → Area → ℕ
other_of capacity A = area_b capacity
other_of capacity B = area_a

-- the head of the area at `start`; bytes that are not there count as zero
pub record IsHeadOf (head : Head) (start : ℕ) (image : List ℕ) : Type 0 where
  pub gate : head.gate ≡ slice_index image start
  pub layout : head.layout ≡ layout_at start image
  pub epoch : head.epoch ≡ epoch_at start image
  pub size : head.size ≡ size_at start image

-- this area is read, its head is whole, and the gate of the other is known
pub record IsUsed (capacity : ℕ) (image : List ℕ) (chosen : Chosen) : Type 0 where
  pub areas : AreAreas capacity chosen.start chosen.other
  pub area : IsChosen chosen.start chosen.other image
  pub layout : chosen.layout ≡ layout_at chosen.start image
  pub epoch : chosen.epoch ≡ epoch_at chosen.start image
  pub small : chosen.epoch < epochs
  pub offset : chosen.offset ≡ frames_of chosen.start image
  pub there : chosen.offset ≤ length image
  pub near : chosen.offset < 2 ^ 40
  pub gate : IsGate chosen.is_closed chosen.other image

-- or frames alone are read, and the gate of area B is known
pub record IsUsedPlainly (capacity : ℕ) (image : List ℕ) (chosen : Chosen) : Type 0 where
  pub plainly : IsPlainly capacity image
  pub start : chosen.start ≡ area_a
  pub other : chosen.other ≡ area_b capacity
  pub layout : chosen.layout ≡ 1
  pub epoch : chosen.epoch ≡ 0
  pub offset : chosen.offset ≡ area_a
  pub there : area_a ≤ length image
  pub gate : IsGate chosen.is_closed chosen.other image

-- the one or the other
abbrev pub IsInUseBy : ℕ → List ℕ → Chosen → Type 0
IsInUseBy capacity image chosen = IsUsed capacity image chosen ⊎ IsUsedPlainly capacity image chosen

-- the mark is the old one, or it is not
abbrev pub IsMarked : Bool → List ℕ → Type 0
IsMarked is_old image = (is_old ≡ true → take 8 image ≡ old_mark) × (is_old ≡ false → take 8 image ≡ mark)

-- what the area that was chosen is read as
abbrev pub reading_of : Chosen → Contents → Reading
reading_of chosen found = record { layout = chosen.layout; epoch = chosen.epoch; base = found.base; inputs = found.inputs.items }
