-- What an image of a journal reads as, and the header that it begins with.
use Rattle.std.specs.Prelude.{◌≡◌, ◌⊎◌, ◌+◌, ◌*◌, ◌≤◌, ℕ, zero, suc, Bool, nat_le, ◌&&◌, List, [], ◌++◌, take, slice_index, codes}
use Rattle.ring_records.specs.declared.input.Input.{Input}
use Rattle.ring_records.specs.declared.limits.TheConstants.{GREATEST_CAPACITY, LEAST_CAPACITY}
use Rattle.ring_records.specs.declared.summary.Summary.{Summary}
use Rattle.ring_records.specs.Member.{Member}

-- ---- what is read

-- The layout and the epoch of the area in use, the summary of its snapshot, and the inputs of the frames behind that.
pub record Reading : Type 0 where
  pub layout : ℕ
  pub epoch : ℕ
  pub base : Summary
  pub inputs : List Input

abbrev pub with_more : Reading → List Input → Reading
with_more r batch = record r { inputs = r.inputs ++ batch }

-- an area without frames
abbrev pub fresh_area : ℕ → ℕ → Summary → Reading
fresh_area layout epoch base = record { layout = layout; epoch = epoch; base = base; inputs = [] }

-- ---- the header

-- k bytes from this offset on as one number; bytes that are not there count as zero
abbrev pub number_at : ℕ → ℕ → List ℕ → ℕ
number_at zero off image = 0
number_at (suc k) off image = number_at k off image * 256 + slice_index image (off + k)

-- what a header names, the node, the ring's size and the capacity, is in its range
abbrev pub is_header : Member → Bool
is_header header = nat_le 2 header.n && (nat_le header.n 16 && (nat_le header.node header.n && (nat_le LEAST_CAPACITY header.capacity && nat_le header.capacity GREATEST_CAPACITY)))

-- the bytes of a device that a journal of this capacity may come to use: its header, and two areas
abbrev pub device_size : ℕ → ℕ
device_size capacity = 46 + 2 * capacity

-- the mark of a journal with two areas, and that of one that began with none
abbrev pub mark : List ℕ
mark = codes "CRJRNL02"

abbrev pub old_mark : List ℕ
old_mark = codes "CRJRNL01"

-- the image begins with a mark and this header, whose capacity is in its range
pub record HasHeader (header : Member) (image : List ℕ) : Type 0 where
  pub marked : (take 8 image ≡ mark) ⊎ (take 8 image ≡ old_mark)
  pub node : slice_index image 8 ≡ header.node
  pub n : slice_index image 9 ≡ header.n
  pub capacity : number_at 4 10 image ≡ header.capacity
  pub from : LEAST_CAPACITY ≤ header.capacity
  pub to : header.capacity ≤ GREATEST_CAPACITY
  pub blank : number_at 2 14 image ≡ 0
