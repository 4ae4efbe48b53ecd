-- What an image reads as by its area, while one range of it changes.
use Rattle.std.proofs.Common.{◌≡◌, ◌⊎◌, inl, inr, ⊎_elim, ℕ, ◌+◌, ◌-◌, ◌<◌, ◌≤◌, List, length, get_or, Bool, sym, ◌∙◌, subst, arith}
use Rattle.std.proofs.lemmas.Bool.{cases_eq}
use Rattle.disk_model.specs.Calls.{Changes}
use Rattle.ring_records.specs.declared.input.Input.{Input}
use Rattle.ring_records.specs.Member.{Member}
use Rattle.gated_journal.specs.Frames.{ReadsTo}
use Rattle.gated_journal.specs.Areas.{AreAreas, epoch_at, Counts, HasBase, IsPlain, Begins, ReadsAt}
use Rattle.gated_journal.specs.AreaWritten.{IsGate}
use Rattle.gated_journal.specs.Reading.{Reading}
use Rattle.gated_journal.proofs.AreaKept.{frames_kept, base_kept, base_behind, older_kept, never_counts, within}
use Rattle.gated_journal.proofs.Kept.{SameBytes, kept, fewer, byte_same, take_same, header_kept}

-- A before B, or B before A
abbrev pub InOrder : ℕ → ℕ → ℕ → Type 0
InOrder capacity start other = ((start ≡ 16) × (other ≡ 31 + capacity)) ⊎ ((start ≡ 31 + capacity) × (other ≡ 16))

pub where_are : (capacity start other : ℕ) → AreAreas capacity start other → InOrder capacity start other
where_are capacity start other is =
    ⊎_elim (λ (e : start ≡ 16). inl (e, omega (arith, is.both, e))) (λ ne. let o = is.one ne in inr (omega (arith, is.both, o), o)) (cases_eq start 16)

pub start_low : (capacity start other : ℕ) → AreAreas capacity start other → start ≤ 31 + capacity
start_low capacity start other is = ⊎_elim (λ (a : (start ≡ 16) × (other ≡ 31 + capacity)). omega (arith, a.0)) (λ (b : (start ≡ 31 + capacity) × (other ≡ 16)). omega (arith, b.0)) (where_are capacity start other is)

pub swapped : (capacity start other : ℕ) → AreAreas capacity start other → AreAreas capacity other start
swapped capacity start other is = record { both = omega (arith, is.both); one = λ ne. ⊎_elim (λ (e : start ≡ 16). e) (λ other_ne. absurd (ne (is.one other_ne))) (cases_eq start 16) }

module _ (header : Member) (image new : List ℕ) (r : Reading) (start other offset gate_at : ℕ) (read : ReadsAt header image r start other offset gate_at) where
  abbrev capacity : ℕ
  capacity = header.capacity

  at : InOrder capacity start other
  at = where_are capacity start other read.areas

  places : (start ≤ offset) × (offset ≤ gate_at) × (gate_at < length image)
  places = within header.n start image r offset gate_at read.begins read.frames

  -- the frames end behind the header
  frames_from : 16 ≤ gate_at
  frames_from = let p = places in ⊎_elim (λ (a : (start ≡ 16) × (other ≡ 31 + capacity)). omega (arith, a.0, p)) (λ (b : (start ≡ 31 + capacity) × (other ≡ 16)). omega (arith, b.0, p)) at

  pub image_long : 16 ≤ length image
  image_long = let p = places in let from = frames_from in omega (arith, p, from)

  -- what is read begins as before, where the bytes before its frames and the header stay
  begins_kept : (inputs : List Input) (end : ℕ) → SameBytes 0 16 image new → offset ≤ length new → SameBytes start (offset - start) image new → ReadsTo r.layout offset new inputs end
      → Begins header.n start new (record r { inputs = inputs }) offset
  begins_kept inputs end first in_new same frames =
      ⊎_elim
      (λ (a : (get_or image start 0 ≡ 1) × HasBase header.n start image r offset). inl (
        byte_same start (offset - start) image new start (omega arith) (omega (arith, a.1.offset_is)) same ∙ a.0,
        base_behind header.n start new r inputs offset (base_kept header.n start image new r offset a.1 in_new (fewer start (offset - start) (start + 1) (offset - (start + 1)) image new (omega arith) (omega (arith, a.1.offset_is)) same)),
      ))
      (λ (p : IsPlain start image r offset). inr (record {
        start_is = p.start_is;
        offset_is = p.offset_is;
        marked = take_same 8 new image (omega (arith, in_new, p.offset_is)) (omega (arith, image_long)) (λ i lt. byte_same 0 16 image new i (omega arith) (omega (arith, lt)) first) ∙ p.marked;
        none = never_counts 16 new inputs end (subst (λ (k : ℕ). ReadsTo r.layout k new inputs end) p.offset_is frames);
        layout = p.layout;
        epoch = p.epoch;
        base = p.base;
      })) read.begins

  -- a change of n bytes within the area that is read, from its closed gate on
  module _ (n : ℕ) (changes : Changes gate_at n image new) (fits : gate_at + n ≤ start + 15 + capacity) where
    -- what is known of the other area stays
    other_kept : SameBytes other 10 image new
    other_kept =
        let p = places in
        kept gate_at n other 10 image new changes
        (⊎_elim (λ (a : (start ≡ 16) × (other ≡ 31 + capacity)). inr (omega (arith, a.0, a.1, fits))) (λ (b : (start ≡ 31 + capacity) × (other ≡ 16)). inl (omega (arith, b.0, b.1, p), omega (arith, b.0, b.1, p))) at)

    -- a commit: other frames, which begin at the same offset
    pub grown : (inputs : List Input) (end : ℕ) → ReadsTo r.layout offset new inputs end → end ≤ start + 14 + capacity
        → ReadsAt header new (record r { inputs = inputs }) start other offset end
    grown inputs end frames within =
        let p = places in
        let from = frames_from in
        let long = image_long in
        let first : SameBytes 0 16 image new = kept gate_at n 0 16 image new changes (inl (from, long)) in
        let front : SameBytes start (gate_at - start) image new = kept gate_at n start (gate_at - start) image new changes (inl (omega (arith, p), omega (arith, p))) in
        record {
          head = header_kept header gate_at n image new from long changes read.head;
          areas = read.areas;
          begins = begins_kept inputs end first (omega (arith, p, changes.no_shorter)) (fewer start (gate_at - start) start (offset - start) image new (omega arith) (omega (arith, p)) front) frames;
          older = older_kept other image new r.epoch other_kept read.older;
          frames = frames;
          within = within;
        }

    pub gate_grown : (is_closed : Bool) → IsGate is_closed other image → IsGate is_closed other new
    gate_grown is_closed gate =
        let p = places in
        let same : get_or new other 0 ≡ get_or image other 0 = byte_same other 10 image new other (omega arith) (omega arith) other_kept in
        let there : other < length new → other < length image =
        λ lt. ⊎_elim (λ (a : (start ≡ 16) × (other ≡ 31 + capacity)). omega (arith, a.0, a.1, fits, lt, changes.no_longer)) (λ (b : (start ≡ 31 + capacity) × (other ≡ 16)). omega (arith, b.0, b.1, p)) at in
        record {
          shut = λ c. (omega (arith, (gate.shut c).0, changes.no_shorter), λ is. (gate.shut c).1 (sym same ∙ is));
          not_shut = λ c lt. same ∙ gate.not_shut c (there lt);
        }

  -- a change of n bytes within the other area: what is read stays, where that does not come to count
  pub beside : (off n : ℕ) → Changes off n image new → other ≤ off → off + n ≤ other + 15 + capacity → (Counts other new → epoch_at other new < r.epoch)
      → ReadsAt header new r start other offset gate_at
  beside off n changes above below older =
      let p = places in
      let high : 16 ≤ off = ⊎_elim (λ (a : (start ≡ 16) × (other ≡ 31 + capacity)). omega (arith, a.1, above)) (λ (b : (start ≡ 31 + capacity) × (other ≡ 16)). omega (arith, b.1, above)) at in
      let all : SameBytes start (gate_at + 1 - start) image new =
      kept off n start (gate_at + 1 - start) image new changes
      (⊎_elim (λ (a : (start ≡ 16) × (other ≡ 31 + capacity)). inl (omega (arith, a.0, a.1, read.within, above, p), omega (arith, p))) (λ (b : (start ≡ 31 + capacity) × (other ≡ 16)). inr (omega (arith, b.0, b.1, below))) at) in
      let first : SameBytes 0 16 image new = kept off n 0 16 image new changes (inl (high, image_long)) in
      let frames = frames_kept offset image new r.inputs gate_at read.frames (omega (arith, p, changes.no_shorter)) (fewer start (gate_at + 1 - start) offset (gate_at + 1 - offset) image new (omega (arith, p)) (omega (arith, p)) all) in
      record {
        head = header_kept header off n image new high image_long changes read.head;
        areas = read.areas;
        begins = begins_kept r.inputs gate_at first (omega (arith, p, changes.no_shorter)) (fewer start (gate_at + 1 - start) start (offset - start) image new (omega arith) (omega (arith, p)) all) frames;
        older = older;
        frames = frames;
        within = read.within;
      }
