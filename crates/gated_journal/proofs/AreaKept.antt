-- What stays of an area, and of the frames in it, where an image changes in one range alone.
use Rattle.std.proofs.Common.{◌≡◌, ◌≢◌, ⊎_elim, [], ◌∷◌, ◌++◌, refl, ℕ, ◌+◌, ◌-◌, ◌<◌, ◌≤◌, ◌^◌, List, length, take, drop, get_or, sym, ◌∙◌, ap, subst, arith, length-take, length-drop}
use Rattle.std.proofs.lemmas.List.{get_or-drop}
use Rattle.std.specs.FinMap as fin
use Rattle.ring_records.specs.declared.input.Input.{Input}
use Rattle.ring_records.specs.declared.summary.Summary.{Summary}
use Rattle.ring_records.specs.KeyOrder.{group_cmp}
use Rattle.ring_records.specs.Snapshot.{IsSound, Spells, snapshot_len}
use Rattle.ring_records.proofs.Snapshots.{length-snapshot}
use Rattle.ring_records.proofs.Sound.{sound-empty}
use Rattle.gated_journal.specs.Frames.{frames, AreBatches, ReadsTo}
use Rattle.gated_journal.specs.Areas.{IsLayout, epoch_at, size_at, snapshot_at, Counts, HasBase, IsPlain, Begins}
use Rattle.gated_journal.specs.Reading.{Reading}
use Rattle.gated_journal.proofs.Behind.{inside, still, gate_closed}
use Rattle.gated_journal.proofs.Kept.{SameBytes, fewer, byte_same, number_same, part_same}

-- frames up to their closed gate
pub frames_kept : {layout : ℕ} (offset : ℕ) (image other : List ℕ) (inputs : List Input) (gate_at : ℕ) → ReadsTo layout offset image inputs gate_at → gate_at < length other
    → SameBytes offset (gate_at + 1 - offset) image other → ReadsTo layout offset other inputs gate_at
frames_kept offset image other inputs gate_at r in_other same =
    let gate : get_or other gate_at 0 ≡ get_or image gate_at 0 = byte_same offset (gate_at + 1 - offset) image other gate_at (omega (arith, r.ends)) (omega (arith, r.ends)) same in
    still offset image other inputs gate_at r (fewer offset (gate_at + 1 - offset) offset (gate_at - offset) image other (omega arith) (omega (arith, r.ends)) same) in_other
    (λ is_open. gate_closed offset image inputs gate_at r (sym gate ∙ is_open))

-- the head of an area and its snapshot
pub base_kept : (n start : ℕ) (image other : List ℕ) (r : Reading) (offset : ℕ) → HasBase n start image r offset → offset ≤ length other
    → SameBytes (start + 1) (offset - (start + 1)) image other → HasBase n start other r offset
base_kept n start image other r offset has in_other same =
    let size = size_at start image in
    let behind = offset - (start + 1) in
    let size_same : size_at start other ≡ size = number_same 4 (start + 10) image other (fewer (start + 1) behind (start + 10) 4 image other (omega arith) (omega (arith, has.offset_is)) same) in
    let epoch_same : epoch_at start other ≡ epoch_at start image = number_same 8 (start + 2) image other (fewer (start + 1) behind (start + 2) 8 image other (omega arith) (omega (arith, has.offset_is)) same) in
    let part : take size (drop (start + 14) other) ≡ snapshot_at start image =
    part_same (start + 14) size image other (omega (arith, has.offset_is, has.there)) (omega (arith, has.offset_is, in_other))
    (fewer (start + 1) behind (start + 14) size image other (omega arith) (omega (arith, has.offset_is)) same) in
    let snapshot_same : snapshot_at start other ≡ snapshot_at start image = ap (λ (k : ℕ). take k (drop (start + 14) other)) size_same ∙ part in
    record {
      layout = has.layout ∙ sym (byte_same (start + 1) behind image other (start + 1) (omega arith) (omega (arith, has.offset_is)) same);
      known = has.known;
      epoch = has.epoch ∙ sym epoch_same;
      small = has.small;
      offset_is = has.offset_is ∙ ap (λ (k : ℕ). start + 14 + k) (sym size_same);
      there = in_other;
      snapshot = subst (λ (bytes : List ℕ). Spells r.layout n bytes r.base) (sym snapshot_same) has.snapshot;
    }

-- it says nothing of the inputs
pub base_behind : (n start : ℕ) (image : List ℕ) (r : Reading) (inputs : List Input) (offset : ℕ) → HasBase n start image r offset
    → HasBase n start image (record r { inputs = inputs }) offset
base_behind n start image r inputs offset has =
    record { layout = has.layout; known = has.known; epoch = has.epoch; small = has.small; offset_is = has.offset_is; there = has.there; snapshot = has.snapshot }

-- whether an area counts, and in which epoch
pub counts_kept : (start : ℕ) (image other : List ℕ) → SameBytes start 10 image other → Counts start other → Counts start image
counts_kept start image other same counts = record {
  gate = sym (byte_same start 10 image other start (omega arith) (omega arith) same) ∙ counts.gate;
  known = subst IsLayout (byte_same start 10 image other (start + 1) (omega arith) (omega arith) same) counts.known;
}

pub older_kept : (start : ℕ) (image other : List ℕ) (epoch : ℕ) → SameBytes start 10 image other → (Counts start image → epoch_at start image < epoch) → Counts start other
    → epoch_at start other < epoch
older_kept start image other epoch same older counts =
    let epoch_same = number_same 8 (start + 2) image other (fewer start 10 (start + 2) 8 image other (omega arith) (omega arith) same) in
    subst (λ (e : ℕ). e < epoch) (sym epoch_same) (older (counts_kept start image other same counts))

-- ---- frames that are read plainly

-- what stands where frames begin
head_byte : {layout : ℕ} (offset : ℕ) (image : List ℕ) (inputs : List Input) (gate_at i : ℕ) (r : ReadsTo layout offset image inputs gate_at)
    → get_or image (offset + i) 0 ≡ get_or (frames r.batches ++ r.gate ∷ r.after) i 0
head_byte offset image inputs gate_at i r = sym (get_or-drop offset image i 0) ∙ ap (λ (l : List ℕ). get_or l i 0) r.whole

-- they never count as an area: the second byte of a frame is 0
pub never_counts : {layout : ℕ} (offset : ℕ) (image : List ℕ) (inputs : List Input) (gate_at : ℕ) → ReadsTo layout offset image inputs gate_at → Counts offset image → ⊥
never_counts {layout = layout} offset image inputs gate_at r counts =
    let same : offset + 0 ≡ offset = omega arith in
    never r.batches r.gate r.after r.sized r.closed (sym (head_byte offset image inputs gate_at 0 r) ∙ ap (λ (i : ℕ). get_or image i 0) same ∙ counts.gate)
    (subst IsLayout (head_byte offset image inputs gate_at 1 r) counts.known)
  where
    never : (bs : List (List Input)) (g : ℕ) (a : List ℕ) → AreBatches layout bs → g ≢ 1 → get_or (frames bs ++ g ∷ a) 0 0 ≡ 1 → IsLayout (get_or (frames bs ++ g ∷ a) 1 0) → ⊥
    never [] g a sized shut is known = shut is
    never (b ∷ bs) g a sized shut is known = omega (arith, sized.0.few, known.0)

-- where there are some, their first gate is open
pub first_open : {layout : ℕ} (offset : ℕ) (image : List ℕ) (inputs : List Input) (gate_at : ℕ) → ReadsTo layout offset image inputs gate_at → gate_at ≢ offset
    → get_or image offset 0 ≡ 1
first_open {layout = layout} offset image inputs gate_at r some =
    let same : offset + 0 ≡ offset = omega arith in
    ap (λ (i : ℕ). get_or image i 0) (sym same) ∙ (head_byte offset image inputs gate_at 0 r ∙ first r.batches (λ none. some (omega (arith, r.ends, ap (λ (bs : List (List Input)). length (frames bs)) none))))
  where
    first : (bs : List (List Input)) → (bs ≡ [] → ⊥) → get_or (frames bs ++ r.gate ∷ r.after) 0 0 ≡ 1
    first [] none = absurd (none refl)
    first (b ∷ bs) none = refl

-- ---- where things lie

-- the frames begin behind the head, and end behind where they begin
pub low : (n start : ℕ) (image : List ℕ) (r : Reading) (offset gate_at : ℕ) → HasBase n start image r offset → ReadsTo r.layout offset image r.inputs gate_at
    → (start + 14 ≤ offset) × (offset ≤ gate_at) × (gate_at < length image)
low n start image r offset gate_at base frames = (omega (arith, base.offset_is), omega (arith, frames.ends), inside offset image r.inputs gate_at frames)

-- the same of whatever is read
pub within : (n start : ℕ) (image : List ℕ) (r : Reading) (offset gate_at : ℕ) → Begins n start image r offset → ReadsTo r.layout offset image r.inputs gate_at
    → (start ≤ offset) × (offset ≤ gate_at) × (gate_at < length image)
within n start image r offset gate_at begins frames =
    (⊎_elim (λ (a : (get_or image start 0 ≡ 1) × HasBase n start image r offset). omega (arith, a.1.offset_is)) (λ (p : IsPlain start image r offset). omega (arith, p.start_is, p.offset_is)) begins, omega (arith, frames.ends), inside offset image r.inputs gate_at frames)

-- they begin behind the snapshot
pub behind_snapshot : (n start : ℕ) (image : List ℕ) (r : Reading) (offset : ℕ) → HasBase n start image r offset → offset ≡ start + 14 + snapshot_len r.layout r.base
behind_snapshot n start image r offset base =
    let size = size_at start image in
    let long : length (snapshot_at start image) ≡ size = omega (arith, length-take size (drop (start + 14) image), length-drop (start + 14) image, base.offset_is, base.there) in
    omega (arith, ap length base.snapshot.is, long, base.offset_is, length-snapshot r.layout r.base)

-- or before they would
pub behind_base : (n start : ℕ) (image : List ℕ) (r : Reading) (offset : ℕ) → Begins n start image r offset → offset ≤ start + 14 + snapshot_len r.layout r.base
behind_base n start image r offset begins =
    ⊎_elim (λ (a : (get_or image start 0 ≡ 1) × HasBase n start image r offset). omega (arith, behind_snapshot n start image r offset a.1)) (λ (p : IsPlain start image r offset). omega (arith, p.start_is, p.offset_is)) begins

-- what is summarised is sound
pub base_few : (n start : ℕ) (image : List ℕ) (r : Reading) (offset : ℕ) → Begins n start image r offset → fin.len r.base.floors < 2 ^ 32
base_few n start image r offset begins =
    ⊎_elim (λ (a : (get_or image start 0 ≡ 1) × HasBase n start image r offset). a.1.snapshot.few_floors)
    (λ (p : IsPlain start image r offset). omega (arith, ap (λ (s : Summary). fin.len s.floors) p.base, fin.len-empty group_cmp ℕ)) begins

pub base_sound : (n start : ℕ) (image : List ℕ) (r : Reading) (offset : ℕ) → Begins n start image r offset → IsSound n r.base
base_sound n start image r offset begins =
    ⊎_elim (λ (a : (get_or image start 0 ≡ 1) × HasBase n start image r offset). a.1.snapshot.sound) (λ (p : IsPlain start image r offset). subst (IsSound n) (sym p.base) (sound-empty n)) begins
