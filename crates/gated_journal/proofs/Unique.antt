-- No frames are read in two ways, and no image has two headers.
use Rattle.std.proofs.Common.{◌≡◌, ◌≢◌, ◌⊎◌, inl, inr, ℕ, ◌+◌, ◌%◌, ◌≤◌, List, [], ◌∷◌, ◌++◌, length, drop, refl, sym, ◌∙◌, ap, arith, append_assoc}
use Rattle.std.proofs.lemmas.List.{append_cancel_left}
use Rattle.ring_records.specs.declared.input.Input.{Input}
use Rattle.ring_records.specs.Member.{Member}
use Rattle.ring_records.specs.Record.{record_of}
use Rattle.ring_records.proofs.Records.{records-apart}
use Rattle.gated_journal.specs.Frames.{records, body, frames, joined, HaveRecords, IsBatch, AreBatches, ReadsTo}
use Rattle.gated_journal.specs.Reading.{HasHeader}
use Rattle.gated_journal.specs.Damage.{NoFrame, IsDamagedAt}

records-unique : (layout : ℕ) (b c : List Input) (r s : List ℕ) → HaveRecords layout b → HaveRecords layout c → length b ≡ length c → records b ++ r ≡ records c ++ s
    → (b ≡ c) × (r ≡ s)
records-unique layout [] [] r s hb hc long e = (refl, e)
records-unique layout [] (y ∷ c) r s hb hc long e = absurd (omega arith)
records-unique layout (x ∷ b) [] r s hb hc long e = absurd (omega arith)
records-unique layout (x ∷ b) (y ∷ c) r s hb hc long e =
    let parts : record_of x ++ (records b ++ r) ≡ record_of y ++ (records c ++ s) =
    sym (append_assoc (record_of x) (records b) r) ∙ e ∙ append_assoc (record_of y) (records c) s in
    let first : x ≡ y = records-apart x y (records b ++ r) (records c ++ s) hb.0.0 hc.0.0 parts in
    let same : record_of x ++ (records b ++ r) ≡ record_of x ++ (records c ++ s) = parts ∙ ap (λ (z : Input). record_of z ++ (records c ++ s)) (sym first) in
    let rest : records b ++ r ≡ records c ++ s = append_cancel_left (record_of x) (records b ++ r) (records c ++ s) same in
    let both = records-unique layout b c r s hb.1 hc.1 (omega (arith, long)) rest in
    ((λ i. first i ∷ both.0 i), both.1)

same-count : (n m : ℕ) → n ≤ 64 → m ≤ 64 → n % 256 ≡ m % 256 → n ≡ m
same-count n m few also e = omega (arith, e)

body-unique : {layout : ℕ} (b c : List Input) (r s : List ℕ) → IsBatch layout b → IsBatch layout c → body b ++ r ≡ body c ++ s → (b ≡ c) × (r ≡ s)
body-unique {layout = layout} b c r s hb hc e =
    let low : length b % 256 ≡ length c % 256 = cc in
    let rest : records b ++ r ≡ records c ++ s = cc in
    records-unique layout b c r s hb.have hc.have (same-count (length b) (length c) hb.few hc.few low) rest

-- no frame stands behind an open gate at the head of these bytes
abbrev Stuck : ℕ → List ℕ → Type 0
Stuck layout bytes = (batch : List Input) (rest : List ℕ) → IsBatch layout batch → bytes ≡ 1 ∷ (body batch ++ rest) → ⊥

frames-unique : (layout : ℕ) (bs cs : List (List Input)) (r s : List ℕ) → AreBatches layout bs → AreBatches layout cs → Stuck layout r → Stuck layout s
    → frames bs ++ r ≡ frames cs ++ s → (bs ≡ cs) × (r ≡ s)
frames-unique layout [] [] r s hb hc one two e = (refl, e)
frames-unique layout [] (c ∷ cs) r s hb hc one two e = absurd (one c (frames cs ++ s) hc.0 (e ∙ ap (λ (l : List ℕ). 1 ∷ l) (append_assoc (body c) (frames cs) s)))
frames-unique layout (b ∷ bs) [] r s hb hc one two e = absurd (two b (frames bs ++ r) hb.0 (sym e ∙ ap (λ (l : List ℕ). 1 ∷ l) (append_assoc (body b) (frames bs) r)))
frames-unique layout (b ∷ bs) (c ∷ cs) r s hb hc one two e =
    let inner : (body b ++ frames bs) ++ r ≡ (body c ++ frames cs) ++ s = cc in
    let tails : body b ++ (frames bs ++ r) ≡ body c ++ (frames cs ++ s) = sym (append_assoc (body b) (frames bs) r) ∙ inner ∙ append_assoc (body c) (frames cs) s in
    let both = body-unique b c (frames bs ++ r) (frames cs ++ s) hb.0 hc.0 tails in
    let rest = frames-unique layout bs cs r s hb.1 hc.1 one two both.1 in
    ((λ i. both.0 i ∷ rest.0 i), rest.1)

closed-stuck : {layout : ℕ} (g : ℕ) (after : List ℕ) → g ≢ 1 → Stuck layout (g ∷ after)
closed-stuck g after shut batch rest is e = let is_open : g ≡ 1 = cc in shut is_open

damaged-stuck : {layout : ℕ} (bytes : List ℕ) → (bytes ≡ []) ⊎ ((tail : List ℕ) × ((bytes ≡ 1 ∷ tail) × NoFrame layout tail)) → Stuck layout bytes
damaged-stuck bytes (inl none) batch rest is e = let same = sym none ∙ e in cc
damaged-stuck bytes (inr some) batch rest is e = some.1.1 batch rest is (let same = sym some.1.0 ∙ e in cc)

-- nor in two ways
pub parts-unique : {layout : ℕ} (offset : ℕ) (image : List ℕ) (inputs more : List Input) (gate_at end : ℕ) → (one : ReadsTo layout offset image inputs gate_at)
    → (two : ReadsTo layout offset image more end)
    → (one.batches ≡ two.batches) × (one.gate ∷ one.after ≡ two.gate ∷ two.after)
parts-unique {layout = layout} offset image inputs more gate_at end one two =
    frames-unique layout one.batches two.batches (one.gate ∷ one.after) (two.gate ∷ two.after) one.sized two.sized (closed-stuck one.gate one.after one.closed) (closed-stuck two.gate two.after two.closed) (sym one.whole ∙ two.whole)

pub unique : {layout : ℕ} (offset : ℕ) (image : List ℕ) (inputs more : List Input) (gate_at end : ℕ) → ReadsTo layout offset image inputs gate_at → ReadsTo layout offset image more end
    → (inputs ≡ more) × (gate_at ≡ end)
unique offset image inputs more gate_at end one two =
    let same = (parts-unique offset image inputs more gate_at end one two).0 in (
      one.same ∙ ap joined same ∙ sym two.same,
      one.ends ∙ ap (λ (bs : List (List Input)). offset + length (frames bs)) same ∙ sym two.ends,
    )

-- frames that are damaged do not read
pub not_both : {layout : ℕ} (offset : ℕ) (image : List ℕ) (inputs : List Input) (gate_at at : ℕ) → ReadsTo layout offset image inputs gate_at → IsDamagedAt layout offset image at → ⊥
not_both {layout = layout} offset image inputs gate_at at r d =
    let up = d.up_to in
    let rests : r.gate ∷ r.after ≡ drop at image =
    (frames-unique layout r.batches up.batches (r.gate ∷ r.after) (drop at image) r.sized up.sized (closed-stuck r.gate r.after r.closed) (damaged-stuck (drop at image) d.broken) (sym r.whole ∙ up.whole)).1 in
    apart d.broken rests
  where
    apart : (drop at image ≡ []) ⊎ ((tail : List ℕ) × ((drop at image ≡ 1 ∷ tail) × NoFrame layout tail)) → r.gate ∷ r.after ≡ drop at image → ⊥
    apart (inl none) rests = let same = rests ∙ none in cc
    apart (inr some) rests = let same = rests ∙ some.1.0 in let is_open : r.gate ≡ 1 = cc in r.closed is_open

-- nor are they damaged at two places
pub damaged_once : {layout : ℕ} (offset : ℕ) (image : List ℕ) (at other : ℕ) → IsDamagedAt layout offset image at → IsDamagedAt layout offset image other → at ≡ other
damaged_once {layout = layout} offset image at other one two =
    let same = (frames-unique layout one.up_to.batches two.up_to.batches (drop at image) (drop other image) one.up_to.sized two.up_to.sized (damaged-stuck (drop at image) one.broken) (damaged-stuck (drop other image) two.broken)
    (sym one.up_to.whole ∙ two.up_to.whole)).0 in
    one.up_to.ends ∙ ap (λ (bs : List (List Input)). offset + length (frames bs)) same ∙ sym two.up_to.ends

-- nor under two headers
pub header_unique : (header other : Member) (image : List ℕ) → HasHeader header image → HasHeader other image → header ≡ other
header_unique header other image one two =
    let node : header.node ≡ other.node = sym one.node ∙ two.node in
    let n : header.n ≡ other.n = sym one.n ∙ two.n in
    let capacity : header.capacity ≡ other.capacity = sym one.capacity ∙ two.capacity in
    λ i. record { node = node i; n = n i; capacity = capacity i }
