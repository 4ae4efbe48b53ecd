-- The two areas of a journal, and what an image reads as by the one that is read. An area is a gate, a layout,
-- an epoch, the length of a snapshot, the snapshot, and frames behind it.
use Rattle.std.specs.Prelude.{◌≡◌, ◌≢◌, ◌⊎◌, ◌+◌, ◌<◌, ◌≤◌, ℕ, List, length, take, drop, slice_index}
use Rattle.disk_model.specs.Disk.{Disk, MayLeave}
use Rattle.ring_records.specs.Admission.{epochs, newest, oldest_area}
use Rattle.ring_records.specs.Member.{Member}
use Rattle.ring_records.specs.Snapshot.{Spells}
use Rattle.ring_records.specs.Summary.{empty}
use Rattle.gated_journal.specs.Frames.{ReadsTo}
use Rattle.gated_journal.specs.Reading.{Reading, number_at, old_mark, HasHeader}

-- ---- an area

-- area A begins behind the header, area B where A ends at the latest
abbrev pub area_a : ℕ
area_a = 16

abbrev pub area_b : ℕ → ℕ
area_b capacity = 31 + capacity

-- the one of them, and the other
pub record AreAreas (capacity start other : ℕ) : Type 0 where
  pub both : start + other ≡ area_a + area_b capacity
  pub one : start ≢ area_a → other ≡ area_a

-- how long an area is before its snapshot
abbrev pub head_len : ℕ
head_len = 14

abbrev pub layout_at : ℕ → List ℕ → ℕ
layout_at start image = slice_index image (start + 1)

abbrev pub epoch_at : ℕ → List ℕ → ℕ
epoch_at start image = number_at 8 (start + 2) image

-- how long its snapshot is
abbrev pub size_at : ℕ → List ℕ → ℕ
size_at start image = number_at 4 (start + 10) image

-- where its frames begin
abbrev pub frames_of : ℕ → List ℕ → ℕ
frames_of start image = start + head_len + size_at start image

-- its snapshot
abbrev pub snapshot_at : ℕ → List ℕ → List ℕ
snapshot_at start image = take (size_at start image) (drop (start + head_len) image)

-- areas of this layout are read
abbrev pub IsLayout : ℕ → Type 0
IsLayout layout = (oldest_area ≤ layout) × (layout ≤ newest)

-- the area counts: its gate is there and open, and its layout is known
pub record Counts (start : ℕ) (image : List ℕ) : Type 0 where
  pub gate : slice_index image start ≡ 1
  pub known : IsLayout (layout_at start image)

-- Behind the gate at `start` stand the layout, the epoch and the snapshot of r, for a ring of n, and its frames begin at
-- `offset`.
pub record HasBase (n start : ℕ) (image : List ℕ) (r : Reading) (offset : ℕ) : Type 0 where
  pub layout : r.layout ≡ layout_at start image
  pub known : IsLayout r.layout
  pub epoch : r.epoch ≡ epoch_at start image
  pub small : r.epoch < epochs
  pub offset_is : offset ≡ frames_of start image
  pub there : offset ≤ length image
  pub snapshot : Spells r.layout n (snapshot_at start image) r.base

-- No area at the place of area A counts under the old mark, and frames begin there: layout 1, of which nothing is
-- summarised.
pub record IsPlain (start : ℕ) (image : List ℕ) (r : Reading) (offset : ℕ) : Type 0 where
  pub start_is : start ≡ area_a
  pub offset_is : offset ≡ area_a
  pub marked : take 8 image ≡ old_mark
  pub none : Counts area_a image → ⊥
  pub layout : r.layout ≡ 1
  pub epoch : r.epoch ≡ 0
  pub base : r.base ≡ empty

-- what is read at `start` begins as r does: as an area whose gate is open, or plainly
abbrev pub Begins : ℕ → ℕ → List ℕ → Reading → ℕ → Type 0
Begins n start image r offset = ((slice_index image start ≡ 1) × HasBase n start image r offset) ⊎ IsPlain start image r offset

-- ---- the area that is read

-- The image has this header and reads as r: of what begins at `start`, with frames from `offset` on and the closed gate at
-- `gate_at`. The other area does not count, or its epoch is less.
pub record ReadsAt (header : Member) (image : List ℕ) (r : Reading) (start other offset gate_at : ℕ) : Type 0 where
  pub head : HasHeader header image
  pub areas : AreAreas header.capacity start other
  pub begins : Begins header.n start image r offset
  pub older : Counts other image → epoch_at other image < r.epoch
  pub frames : ReadsTo r.layout offset image r.inputs gate_at
  pub within : gate_at ≤ start + head_len + header.capacity

-- *Reading*: the image reads as r
pub record ReadsAs (header : Member) (image : List ℕ) (r : Reading) : Type 0 where
  pub start : ℕ
  pub other : ℕ
  pub offset : ℕ
  pub gate_at : ℕ
  pub at : ReadsAt header image r start other offset gate_at

-- every image that a stop may leave reads as r
abbrev pub AllReadAs : Member → Disk → Reading → Type 0
AllReadAs header disk r = (image : List ℕ) → MayLeave disk image → ReadsAs header image r

-- the image reads as the one or as the other
abbrev pub ReadsAsOneOf : Member → Reading → Reading → List ℕ → Type 0
ReadsAsOneOf header old new image = ReadsAs header image old ⊎ ReadsAs header image new
