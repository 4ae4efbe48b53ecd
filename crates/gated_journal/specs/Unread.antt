-- Why an image does not read: the first fault, from the header on.
use Rattle.std.specs.Prelude.{◌≡◌, ◌⊎◌, ◌+◌, ◌-◌, ◌==◌, ◌&&◌, ◌||◌, not, min, ◌^◌, ◌≤◌, ℕ, nat_lt, nat_le, if◌then◌else◌, List, length, take, slice_index, Result, Ok, Err}
use Rattle.std.specs.Str.{bytes_eq}
use Rattle.ring_records.specs.declared.limits.TheConstants.{GREATEST_CAPACITY, LEAST_CAPACITY}
use Rattle.ring_records.specs.declared.refusal.Refusal.{Refusal}
use Rattle.ring_records.specs.declared.refusal.Refusal.TheVariants.{NotFormatted, WrongNode, Damaged, OutOfMemory, Device}
use Rattle.gated_journal.specs.Damage.{AreAreasUnread}
use Rattle.gated_journal.specs.Reading.{number_at, mark, old_mark}

-- ---- the header

-- the capacity that the first 16 bytes name, for this node of a ring of n
abbrev pub head_at : ℕ → ℕ → List ℕ → Result ℕ Refusal
head_at node n head =
    if not (bytes_eq (take 8 head) mark || bytes_eq (take 8 head) old_mark) then Err NotFormatted
    else (if not (slice_index head 8 == node && slice_index head 9 == n) then Err WrongNode
    else (if not (nat_le LEAST_CAPACITY (number_at 4 10 head) && nat_le (number_at 4 10 head) GREATEST_CAPACITY) then Err (Damaged 10)
    else (if not (number_at 2 14 head == 0) then Err (Damaged 14)
    else Ok (number_at 4 10 head))))

abbrev pub header_at : ℕ → ℕ → List ℕ → Result ℕ Refusal
header_at node n image = if nat_lt (length image) 17 then Err NotFormatted else head_at node n image

-- ---- both

-- the header has this fault, or it has none and the areas have it
pub record IsUnread (node n : ℕ) (image : List ℕ) (refusal : Refusal) : Type 0 where
  pub cause : (header_at node n image ≡ Err refusal) ⊎ ((capacity : ℕ) × (header_at node n image ≡ Ok capacity) × AreAreasUnread n capacity image refusal)

-- the device failed: its count of failures rose to what the refusal says
pub record IsFault (before now : ℕ) (refusal : Refusal) : Type 0 where
  pub is : refusal ≡ Device now
  pub rises : min (before + 1) (2 ^ 64 - 1) ≤ now

-- why no journal is read: a growth was refused behind a header without fault, or the image does not read
abbrev pub IsNoJournal : ℕ → ℕ → List ℕ → Refusal → Type 0
IsNoJournal node n image refusal = ((capacity : ℕ) × (header_at node n image ≡ Ok capacity) × (refusal ≡ OutOfMemory)) ⊎ IsUnread node n image refusal

-- why a journal is not opened: the device failed, or no journal is read
pub record IsUnopened (node n before now : ℕ) (image : List ℕ) (refusal : Refusal) : Type 0 where
  pub cause : IsFault before now refusal ⊎ IsNoJournal node n image refusal
