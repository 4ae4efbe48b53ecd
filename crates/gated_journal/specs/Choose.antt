-- Which of the two areas is read, and what the parts of the reader find of it.
use Rattle.std.specs.Prelude.{◌≡◌, ◌⊎◌, ◌<◌, ℕ, List, take}
use Rattle.gated_journal.specs.Areas.{area_a, area_b, epoch_at, Counts}
use Rattle.gated_journal.specs.Reading.{old_mark}

-- ---- the choice

-- this area is read and not the other
pub record IsChosen (start other : ℕ) (image : List ℕ) : Type 0 where
  pub counts : Counts start image
  pub older : Counts other image → epoch_at other image < epoch_at start image

-- none is read: neither counts, or both do in one epoch
abbrev pub IsUnchosen : ℕ → List ℕ → Type 0
IsUnchosen capacity image =
    ((Counts area_a image → ⊥) × (Counts (area_b capacity) image → ⊥))
    ⊎ (Counts area_a image × Counts (area_b capacity) image × (epoch_at area_a image ≡ epoch_at (area_b capacity) image))

-- none counts, under the mark of a journal that began without areas: frames alone are read
pub record IsPlainly (capacity : ℕ) (image : List ℕ) : Type 0 where
  pub marked : take 8 image ≡ old_mark
  pub first : Counts area_a image → ⊥
  pub second : Counts (area_b capacity) image → ⊥
