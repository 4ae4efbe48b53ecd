-- The stretches between two syncs that a device has had, oldest first: what was stable in it, and the ranges written by
-- its end. As ranges are only added within a stretch, what a stop in it might have left is what one at its end might.
use Rattle.std.specs.Prelude.{◌⊎◌, ℕ, List, [], ◌∷◌, length, drop}
use mathlib.Core.Logic.{inl, inr}
use Rattle.disk_model.specs.Disk.{Disk, MayLeave, IsTorn}

abbrev pub Past : Type 0
Past = List (List ℕ × List (ℕ × ℕ))

-- some stretch might have left this
abbrev pub LeftIn : Past → List ℕ → Type 0
LeftIn [] image = ⊥
LeftIn (stretch ∷ past) image = IsTorn stretch.0 stretch.1 image ⊎ LeftIn past image

-- stretch number t, or a later one, or the one that is now might have left this
abbrev pub LeftSince : Past → Disk → ℕ → List ℕ → Type 0
LeftSince past disk t image = MayLeave disk image ⊎ LeftIn (drop t past) image

pub same_now : (past : Past) (disk : Disk) (t : ℕ) (image : List ℕ) → MayLeave disk image → LeftSince past disk t image
same_now past disk t image now = inl now

none_left : (past : Past) (image : List ℕ) → LeftIn (drop (length past) past) image → ⊥
none_left [] image left = left
none_left (stretch ∷ past) image left = none_left past image left

pub still_now : (past : Past) (disk : Disk) (image : List ℕ) → LeftSince past disk (length past) image → MayLeave disk image
still_now past disk image (inl now) = now
still_now past disk image (inr left) = absurd (none_left past image left)
