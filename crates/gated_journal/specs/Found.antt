-- What the parts of the reader of an area have found of it, with the bytes that were taken and those behind them.
use Rattle.std.specs.Prelude.{◌≡◌, ◌≢◌, ◌+◌, ◌-◌, ◌*◌, ◌<◌, ◌≤◌, ℕ, List, [], ◌∷◌, ◌++◌, length, slice_index, vec_len, vec_capacity, Result, Ok, Err}
use Rattle.ring_records.specs.declared.input.Input.{Input}
use Rattle.ring_records.specs.declared.refusal.Refusal.{Refusal}
use Rattle.ring_records.specs.declared.refusal.Refusal.TheVariants as refused
use Rattle.ring_records.specs.declared.summary.Summary.{Summary}
use Rattle.ring_records.specs.Admission.{epochs}
use Rattle.ring_records.specs.Snapshot.{Spells}
use Rattle.gated_journal.specs.Areas.{IsLayout, layout_at, epoch_at, size_at}
use Rattle.gated_journal.specs.Frames.{frames, joined, AreBatches}
use Rattle.gated_journal.specs.Pieces.{IsAreaDamaged, IsNextFront}
use Rattle.gated_journal.specs.declared.area_reader.Fed.{Fed}
use Rattle.gated_journal.specs.declared.area_reader.Fed.TheVariants as fed
use Rattle.gated_journal.specs.declared.found.Found.{Found}
use Rattle.gated_journal.specs.declared.found.Stage.{Stage}
use Rattle.gated_journal.specs.declared.found.Stage.TheVariants.{Head, Snapshot, Frames, Done, Damaged}

-- ---- what was taken

-- the 14 bytes of the head of an area of this layout
pub record IsHead (layout size : ℕ) (head : List ℕ) : Type 0 where
  pub long : length head ≡ 14
  pub gate : slice_index head 0 ≡ 1
  pub layout_is : layout_at 0 head ≡ layout
  pub known : IsLayout layout
  pub small : epoch_at 0 head < epochs
  pub size_is : size_at 0 head ≡ size

-- a head and the front of its snapshot, of which so many bytes are still to come
pub record InSnapshot (layout : ℕ) (snapshot taken : List ℕ) (left : ℕ) : Type 0 where
  pub head : List ℕ
  pub size : ℕ
  pub is_head : IsHead layout size head
  pub taken_is : taken ≡ head ++ snapshot
  pub left_is : length snapshot + left ≡ size

-- a head, its snapshot, and frames of these inputs
pub record InFrames (layout n : ℕ) (snapshot taken : List ℕ) (inputs : List Input) : Type 0 where
  pub head : List ℕ
  pub base : Summary
  pub batches : List (List Input)
  pub is_head : IsHead layout (length snapshot) head
  pub spells : Spells layout n snapshot base
  pub taken_is : taken ≡ head ++ (snapshot ++ frames batches)
  pub sized : AreBatches layout batches
  pub same : inputs ≡ joined batches

-- a closed gate stands at the front of the bytes
abbrev pub IsClosed : List ℕ → Type 0
IsClosed behind = (gate : ℕ) × ((after : List ℕ) × ((behind ≡ gate ∷ after) × (gate ≢ 1)))

-- at each stage
abbrev pub IsFound : ℕ → ℕ → Stage → List ℕ → List Input → List ℕ → List ℕ → Type 0
IsFound layout n Head snapshot inputs taken behind = (taken ≡ []) × ((snapshot ≡ []) × (inputs ≡ []))
IsFound layout n (Snapshot left) snapshot inputs taken behind = InSnapshot layout snapshot taken left × ((0 < left) × (inputs ≡ []))
IsFound layout n Frames snapshot inputs taken behind = InFrames layout n snapshot taken inputs
IsFound layout n Done snapshot inputs taken behind = InFrames layout n snapshot taken inputs × IsClosed behind
IsFound layout n (Damaged at) snapshot inputs taken behind = (at ≤ length taken) × ((more : List ℕ) → IsAreaDamaged layout n ((taken ++ behind) ++ more) at)

-- these bytes were taken, and those stand behind them
abbrev pub Holds : ℕ → Found → List ℕ → List ℕ → Type 0
Holds layout found taken behind = IsFound layout found.snapshot.n found.stage found.snapshot.taken found.inputs.items taken behind

-- ---- when more bytes are needed

abbrev pub IsWaiting : Stage → List ℕ → Type 0
IsWaiting Head behind = length behind < 14
IsWaiting (Snapshot left) behind = (length behind < left) × (length behind < 38)
IsWaiting Frames behind = IsNextFront behind
IsWaiting Done behind = Unit {0}
IsWaiting (Damaged at) behind = Unit {0}

-- something stands next
abbrev pub IsOpen : Stage → Type 0
IsOpen Head = Unit {0}
IsOpen (Snapshot left) = Unit {0}
IsOpen Frames = Unit {0}
IsOpen Done = ⊥
IsOpen (Damaged at) = ⊥

-- what is told then, of an area at this offset
abbrev pub answer_of : ℕ → Stage → Result Fed Refusal
answer_of offset Head = Ok fed.More
answer_of offset (Snapshot left) = Ok fed.More
answer_of offset Frames = Ok fed.More
answer_of offset Done = Ok fed.Done
answer_of offset (Damaged at) = Err (refused.Damaged (offset + at))

-- ---- room

-- the snapshot goes on
abbrev pub IsBefore : Stage → Type 0
IsBefore Head = Unit {0}
IsBefore (Snapshot left) = Unit {0}
IsBefore Frames = ⊥
IsBefore Done = ⊥
IsBefore (Damaged at) = ⊥

-- so many bytes more are taken without a growth, where a snapshot has room for some and there are so many places for
-- inputs; a record has 7 bytes at least
abbrev pub IsRoom : Stage → ℕ → ℕ → ℕ → Type 0
IsRoom stage snapshot places bytes = (IsBefore stage → bytes ≤ snapshot) × (bytes ≤ 7 * places)

abbrev pub HasRoom : Found → ℕ → Type 0
HasRoom found bytes = IsRoom found.stage found.snapshot.room (vec_capacity found.inputs - vec_len found.inputs) bytes

-- they have found the same
pub record AreAlike (found other : Found) : Type 0 where
  pub stage : other.stage ≡ found.stage
  pub n : other.snapshot.n ≡ found.snapshot.n
  pub layout : other.snapshot.layout ≡ found.snapshot.layout
  pub snapshot : other.snapshot.taken ≡ found.snapshot.taken
  pub inputs : other.inputs.items ≡ found.inputs.items
  pub at : other.at ≡ found.at

-- ---- the whole reader

-- What a reader keeps, and the bytes that were fed: those that were taken, and those behind them, which are kept while
-- something stands next. Else none are.
pub record IsReader (layout : ℕ) (found : Found) (rest bytes : List ℕ) : Type 0 where
  pub taken : List ℕ
  pub behind : List ℕ
  pub whole : bytes ≡ taken ++ behind
  pub at : found.at ≡ length taken
  pub layout_is : found.snapshot.layout ≡ layout
  pub holds : Holds layout found taken behind
  pub waits : IsWaiting found.stage behind
  pub rest_is : IsOpen found.stage → behind ≡ rest
  pub none : (IsOpen found.stage → ⊥) → rest ≡ []
