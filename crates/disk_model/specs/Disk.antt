-- What a device has on its disk, what its calls do to it, and what a stop may leave of it. An image is the bytes from
-- offset 0 to its end; the byte at an index past the end is 0.
use Rattle.std.specs.Prelude.{◌≡◌, ◌⊎◌, ℕ, ◌+◌, ◌<◌, ◌≤◌, max, Bool, List, [], ◌∷◌, length, slice_index, IsTrue}

-- ---- the disk, and what a stop may leave

-- what a read gives; what the last sync that succeeded made stable, empty before the first; and the ranges written
-- since, each by its offset and its length, the oldest first
pub record Disk : Type 0 where
  pub image : List ℕ
  pub stable : List ℕ
  pub ranges : List (ℕ × ℕ)

-- none of the ranges has this byte
abbrev pub IsOutside : List (ℕ × ℕ) → ℕ → Type 0
IsOutside [] i = Unit {0}
IsOutside (range ∷ ranges) i = ((i < range.0) ⊎ (range.0 + range.1 ≤ i)) × IsOutside ranges i

-- the greatest end of a range
abbrev pub greatest_end : List (ℕ × ℕ) → ℕ
greatest_end [] = 0
greatest_end (range ∷ ranges) = max (range.0 + range.1) (greatest_end ranges)

-- The stable image outside the ranges. In them and past the stable end any bytes, and any length from the stable one to
-- the greatest end written.
pub record IsTorn (stable : List ℕ) (ranges : List (ℕ × ℕ)) (image : List ℕ) : Type 0 where
  pub no_shorter : length stable ≤ length image
  pub no_longer : length image ≤ max (length stable) (greatest_end ranges)
  pub same : (i : ℕ) → i < length stable → IsOutside ranges i → slice_index image i ≡ slice_index stable i

-- a stop now may leave this image
abbrev pub MayLeave : Disk → List ℕ → Type 0
MayLeave disk image = IsTorn disk.stable disk.ranges image

-- ---- what the calls do

-- what a read gives becomes the stable image
abbrev pub synced : Disk → Disk
synced disk = record { image = disk.image; stable = disk.image; ranges = [] }

-- ---- time, failures and reach

-- how far a device goes, and whether it is reliable: then no sync fails, and no call that ends at or below the limit
pub record Reach : Type 0 where
  pub limit : ℕ
  pub reliable : Bool

-- the device is reliable, and goes as far as this size
pub record Reaches (reach : Reach) (size : ℕ) : Type 0 where
  pub reliable : IsTrue reach.reliable
  pub within : size ≤ reach.limit

-- ---- what users of a device say

-- A stop at any moment from old to new leaves an image that has P.
pub record LeavesOnly {D : Type 0} (clock : D → ℕ) (left_since : D → ℕ → List ℕ → Type 0) (old new : D) (P : List ℕ → Type 0) : Type 0 where
  pub later : clock old ≤ clock new
  pub each : (image : List ℕ) → left_since new (clock old) image → P image
  -- for a moment before old: what might have been left then, or what has P
  pub before : (t : ℕ) (image : List ℕ) → t ≤ clock old → left_since new t image → left_since old t image ⊎ P image
  pub keeps : (t : ℕ) (image : List ℕ) → t ≤ clock old → left_since old t image → left_since new t image
