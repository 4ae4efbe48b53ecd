-- What the calls of a device do to its disk, its clock and its count of failures.
use Rattle.std.specs.Prelude.{◌≡◌, ◌⊎◌, ℕ, ◌+◌, ◌-◌, ◌^◌, ◌<◌, ◌≤◌, min, max, List, [], ◌∷◌, ◌++◌, length, slice_index, IsOk, IsErr, Result}
use Rattle.disk_model.specs.Disk.{Disk, IsOutside, MayLeave, Reach, Reaches}

-- some range has this byte
abbrev pub IsInside : List (ℕ × ℕ) → ℕ → Type 0
IsInside [] i = ⊥
IsInside (range ∷ ranges) i = ((range.0 ≤ i) × (i < range.0 + range.1)) ⊎ IsInside ranges i

-- these bytes stand in the image from this offset on, with zeros past its end
abbrev pub IsPart : ℕ → List ℕ → List ℕ → Type 0
IsPart off bytes image = (i : ℕ) → i < length bytes → slice_index bytes i ≡ slice_index image (off + i)

-- New is old with these bytes put at this offset. A gap behind the old end holds zeros; no bytes change nothing.
pub record Puts (off : ℕ) (bytes old new : List ℕ) : Type 0 where
  pub size : 0 < length bytes → length new ≡ max (length old) (off + length bytes)
  pub none : length bytes ≡ 0 → length new ≡ length old
  pub here : (i : ℕ) → i < length bytes → slice_index new (off + i) ≡ slice_index bytes i
  pub others : (i : ℕ) → (i < off) ⊎ (off + length bytes ≤ i) → slice_index new i ≡ slice_index old i

-- a write of n bytes at this offset, whether it succeeds or not: one range more, and nothing becomes stable
pub record Unsyncs (off n : ℕ) (old new : Disk) : Type 0 where
  pub stable : new.stable ≡ old.stable
  pub ranges : new.ranges ≡ old.ranges ++ (off, n) ∷ []

-- a stop may leave any byte here: some range has this one, or it lies past the stable end
abbrev pub IsUnsynced : Disk → ℕ → Type 0
IsUnsynced disk i = IsInside disk.ranges i ⊎ (length disk.stable ≤ i)

-- New is what is read, with this byte in place of each unsynced one.
pub record Fills (byte : ℕ) (disk : Disk) (new : List ℕ) : Type 0 where
  pub size : length new ≡ length disk.image
  pub unsynced : (i : ℕ) → i < length disk.image → IsUnsynced disk i → slice_index new i ≡ byte
  pub others : (i : ℕ) → i < length disk.stable → IsOutside disk.ranges i → slice_index new i ≡ slice_index disk.image i

-- A call from one moment to a later one, after which the disk is this. What a stop since t might have left is what it
-- might have left before the call, or what it may leave now. So within the call nothing else was left.
pub record Elapses (before now : ℕ) (past since : ℕ → List ℕ → Type 0) (disk : Disk) : Type 0 where
  pub later : before ≤ now
  pub nothing_else : (t : ℕ) (image : List ℕ) → t ≤ before → since t image → past t image ⊎ MayLeave disk image
  pub keeps : (t : ℕ) (image : List ℕ) → t ≤ before → past t image → since t image

-- the count of failures never falls; a success leaves it, and a fault raises it, save at 2^64 - 1, where it stays
pub record HasCause {T E : Type 0} (before now : ℕ) (result : Result T E) : Type 0 where
  pub later : before ≤ now
  pub same : IsOk result → now ≡ before
  pub rises : IsErr result → min (before + 1) (2 ^ 64 - 1) ≤ now

-- the reach stays, and a call that ends within it succeeds
pub record IsInReach {T E : Type 0} (end : ℕ) (before now : Reach) (result : Result T E) : Type 0 where
  pub same : now ≡ before
  pub works : Reaches before end → IsOk result

-- New differs from old at most in the n bytes from this offset on, and in an end that they may have moved up. A gap
-- behind the old end may hold any bytes.
pub record Changes (off n : ℕ) (old new : List ℕ) : Type 0 where
  pub no_shorter : length old ≤ length new
  pub no_longer : length new ≤ max (length old) (off + n)
  pub same : (i : ℕ) → i < length old → (i < off) ⊎ (off + n ≤ i) → slice_index new i ≡ slice_index old i
