-- What a journal begins with, whatever version formatted it.
use Rattle.std.specs.Prelude.{ℕ, ◌≡◌, ◌≤◌, nat_lt, if◌then◌else◌}
use Rattle.ring_records.specs.declared.base.Base.{Base}
use Rattle.ring_records.specs.Admission.{base_of, newest, oldest_area}
use Rattle.ring_records.specs.Summary.{empty}

-- the number of the area that a new journal of this layout begins with: layout 1 has no areas, and so none
abbrev pub first_epoch : ℕ → ℕ
first_epoch layout = if nat_lt layout oldest_area then 0 else 1

-- what a journal stands for as the version that writes this layout formats it: no input
abbrev pub formatted : ℕ → Base
formatted layout = base_of layout (first_epoch layout) empty

-- some version formatted a journal that stands for this
pub record IsFormatted (base : Base) : Type 0 where
  pub least : 1 ≤ base.layout
  pub most : base.layout ≤ newest
  pub is : base ≡ formatted base.layout
