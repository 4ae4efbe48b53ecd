-- The steps of a checkpoint: the other area is closed, written, and opened.
use Rattle.std.proofs.Common.{◌≡◌, ◌≢◌, inl, inr, ⊎_elim, ℕ, zero, suc, ◌+◌, ◌-◌, ◌<◌, ◌≤◌, List, [], ◌∷◌, length, get_or, Bool, true, false, eqb, ◌&&◌, refl, sym, ◌∙◌, ap, subst, arith}
use Rattle.std.proofs.lemmas.Bool.{and_parts, cases_lt, eqb-true, eq-eqb}
use Rattle.std.proofs.lemmas.List.{get_or_past}
use Rattle.disk_model.specs.Calls.{Changes, Puts}
use Rattle.disk_model.proofs.Changed.{byte_below, byte_above}
use Rattle.ring_records.specs.Member.{Member}
use Rattle.gated_journal.specs.Areas.{IsLayout, epoch_at, Counts, HasBase, IsPlain, Begins, ReadsAt}
use Rattle.gated_journal.specs.AreaWritten.{IsGate, leaves_closed, IsStaged, first_write}
use Rattle.gated_journal.specs.Reading.{Reading}
use Rattle.gated_journal.proofs.AreaBeside.{InOrder, where_are, swapped, beside}
use Rattle.gated_journal.proofs.AreaKept.{frames_kept, base_kept, older_kept, low, within, first_open}
use Rattle.gated_journal.proofs.Behind.{gate_closed}
use Rattle.gated_journal.proofs.Kept.{SameBytes, kept, header_kept}
use Rattle.gated_journal.proofs.Results.{not_both}

-- while the other area is closed it does not come to count in an epoch of its own
pub closing : (is_closed : Bool) (header : Member) (image new : List ℕ) (r : Reading) (start other offset gate_at : ℕ) → ReadsAt header image r start other offset gate_at
    → IsGate is_closed other image
    → Changes (first_write is_closed other) 1 image new → ReadsAt header new r start other offset gate_at
closing true header image new r start other offset gate_at read gate changes =
    let shut = gate.shut refl in
    let same : get_or new other 0 ≡ get_or image other 0 = byte_below (other + 1) 1 image new changes other (omega arith) shut.0 in
    beside header image new r start other offset gate_at read (other + 1) 1 changes (omega arith) (omega arith) (λ c. absurd (shut.1 (sym same ∙ c.gate)))
closing false header image new r start other offset gate_at read gate changes =
    beside header image new r start other offset gate_at read other 1 changes (omega arith) (omega arith)
    (λ c. ⊎_elim (λ (there : other < length image). older_kept other image new r.epoch (same_bytes there c.gate) read.older c)
    (λ (past : length image ≤ other). absurd (none past c.known)) (cases_lt other (length image)))
  where
    each : (i : ℕ) → other < length image → get_or new other 0 ≡ 1 → get_or new (other + i) 0 ≡ get_or image (other + i) 0
    each zero there is_open =
        let at : other + 0 ≡ other = omega arith in
        ap (λ (j : ℕ). get_or new j 0) at ∙ is_open ∙ sym (gate.not_shut refl there) ∙ ap (λ (j : ℕ). get_or image j 0) (sym at)
    each (suc i) there is_open = byte_above other 1 image new changes (other + suc i) (omega arith)

    same_bytes : other < length image → get_or new other 0 ≡ 1 → SameBytes other 10 image new
    same_bytes there is_open = record { each = λ i lt. each i there is_open }

    none : length image ≤ other → IsLayout (get_or new (other + 1) 0) → ⊥
    none past known =
        let zero_there : get_or new (other + 1) 0 ≡ 0 = get_or_past new (other + 1) 0 (omega (arith, changes.no_longer, past)) in
        omega (arith, known.0, zero_there)

-- and then it is closed
pub closed_then : (is_closed : Bool) (other : ℕ) (image new : List ℕ) → IsGate is_closed other image → Puts (first_write is_closed other) (0 ∷ []) image new → IsGate true other new
closed_then true other image new gate put =
    let shut = gate.shut refl in
    let same : get_or new other 0 ≡ get_or image other 0 = put.others other (inl (omega arith)) in
    record { shut = λ c. (omega (arith, put.size (omega arith)), λ is. shut.1 (sym same ∙ is)); not_shut = λ no. not_both no }
closed_then false other image new gate put =
    let at : other + 0 ≡ other = omega arith in
    let zero_there : get_or new other 0 ≡ 0 = ap (λ (i : ℕ). get_or new i 0) (sym at) ∙ put.here 0 (omega arith) in
    record { shut = λ c. (omega (arith, put.size (omega arith)), λ is. omega (arith, is, zero_there)); not_shut = λ no. not_both no }

-- while the new area is written behind the closed gate
pub writing : (header : Member) (image new : List ℕ) (r : Reading) (start other offset gate_at n : ℕ) → ReadsAt header image r start other offset gate_at → IsGate true other image
    → Changes (other + 1) n image new → n ≤ 14 + header.capacity → ReadsAt header new r start other offset gate_at
writing header image new r start other offset gate_at n read gate changes fits =
    let shut = gate.shut refl in
    let same : get_or new other 0 ≡ get_or image other 0 = byte_below (other + 1) n image new changes other (omega arith) shut.0 in
    beside header image new r start other offset gate_at read (other + 1) n changes (omega arith) (omega (arith, fits)) (λ c. absurd (shut.1 (sym same ∙ c.gate)))

-- while the gate is opened: what was read before is read, or the new area
module _ (header : Member) (image new : List ℕ) (old r : Reading) (start other offset gate_at next : ℕ) (read : ReadsAt header image old start other offset gate_at) (stage : IsStaged header.n other image r next)
    (fits : next ≤ other + 14 + header.capacity) (newer : old.epoch < r.epoch) (changes : Changes other 1 image new) where
  at : InOrder header.capacity start other
  at = where_are header.capacity start other read.areas

  places : (start ≤ offset) × (offset ≤ gate_at) × (gate_at < length image)
  places = within header.n start image old offset gate_at read.begins read.frames

  -- what began there does not count in the new one's epoch
  lesser : Counts start image → epoch_at start image < r.epoch
  lesser c =
      ⊎_elim (λ (a : (get_or image start 0 ≡ 1) × HasBase header.n start image old offset). omega (arith, a.1.epoch, newer))
      (λ (p : IsPlain start image old offset). absurd (p.none (subst (λ (k : ℕ). Counts k image) p.start_is c))) read.begins

  pub still_old : get_or new other 0 ≢ 1 → ReadsAt header new old start other offset gate_at
  still_old shut = beside header image new old start other offset gate_at read other 1 changes (omega arith) (omega arith) (λ c. absurd (shut c.gate))

  pub now_new : get_or new other 0 ≡ 1 → ReadsAt header new r other start next next
  now_new is_open =
      let p = places in
      let q = low header.n other image r next next stage.base stage.frames in
      let start_same : SameBytes start 10 image new =
      kept other 1 start 10 image new changes
      (⊎_elim (λ (a : (start ≡ 16) × (other ≡ 31 + header.capacity)). inl (omega (arith, a.0, a.1, read.head.from), omega (arith, a.0, a.1, read.head.from, stage.there))) (λ (b : (start ≡ 31 + header.capacity) × (other ≡ 16)). inr (omega (arith, b.0, b.1))) at) in
      record {
        head = header_kept header other 1 image new (⊎_elim (λ (a : (start ≡ 16) × (other ≡ 31 + header.capacity)). omega (arith, a.1)) (λ (b : (start ≡ 31 + header.capacity) × (other ≡ 16)). omega (arith, b.1)) at)
            (⊎_elim (λ (a : (start ≡ 16) × (other ≡ 31 + header.capacity)). omega (arith, a.0, p)) (λ (b : (start ≡ 31 + header.capacity) × (other ≡ 16)). omega (arith, b.0, p)) at) changes read.head;
        areas = swapped header.capacity start other read.areas;
        begins = inl (is_open, base_kept header.n other image new r next stage.base (omega (arith, q, changes.no_shorter)) (kept other 1 (other + 1) (next - (other + 1)) image new changes (inr (omega arith))));
        older = older_kept start image new r.epoch start_same lesser;
        frames = frames_kept next image new r.inputs next stage.frames (omega (arith, q, changes.no_shorter)) (kept other 1 next (next + 1 - next) image new changes (inr (omega (arith, q))));
        within = fits;
      }

  -- what was read stays as it was, and so does the gate where it begins
  shut_behind : (begins : Begins header.n start image old offset) → leaves_closed old.layout start gate_at ≡ true → (start < length image) × (get_or image start 0 ≢ 1)
  shut_behind (inl a) e = let one = and_parts (eqb old.layout 1) (eqb gate_at start) e in omega (arith, eqb-true old.layout 1 one.0, a.1.known.0)
  shut_behind (inr p) e =
      let one = and_parts (eqb old.layout 1) (eqb gate_at start) e in
      let same : gate_at ≡ start = eqb-true gate_at start one.1 in
      (omega (arith, places, same), λ is. gate_closed offset image old.inputs gate_at read.frames (ap (λ (k : ℕ). get_or image k 0) same ∙ is))

  open_behind : (begins : Begins header.n start image old offset) → leaves_closed old.layout start gate_at ≡ false → get_or image start 0 ≡ 1
  open_behind (inl a) e = a.0
  open_behind (inr p) e =
      ap (λ (k : ℕ). get_or image k 0) (p.start_is ∙ sym p.offset_is)
      ∙ first_open offset image old.inputs gate_at read.frames (λ same. not_both (sym (sym e ∙ (λ i. eqb (p.layout i) 1 && eqb ((same ∙ (p.offset_is ∙ sym p.start_is)) i) start) ∙ eq-eqb start start refl)))

  pub gate_behind : IsGate (leaves_closed old.layout start gate_at) start new
  gate_behind =
      let p = places in
      let same : get_or new start 0 ≡ get_or image start 0 =
      ⊎_elim (λ (a : (start ≡ 16) × (other ≡ 31 + header.capacity)). byte_below other 1 image new changes start (omega (arith, a.0, a.1)) (omega (arith, p))) (λ (b : (start ≡ 31 + header.capacity) × (other ≡ 16)). byte_above other 1 image new changes start (omega (arith, b.0, b.1))) at in
      record {
        shut = λ e. let is = shut_behind read.begins e in (omega (arith, is.0, changes.no_shorter), λ one. is.1 (sym same ∙ one));
        not_shut = λ e lt. same ∙ open_behind read.begins e;
      }
