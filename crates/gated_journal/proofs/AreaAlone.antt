-- No image reads by its area in two ways.
use Rattle.std.proofs.Common.{◌≡◌, ◌≢◌, inl, inr, ⊎_elim, get_or, ℕ, ◌+◌, ◌<◌, List, refl, sym, ◌∙◌, ap, subst, arith}
use Rattle.std.proofs.lemmas.Bool.{cases_eq}
use Rattle.ring_records.specs.Member.{Member}
use Rattle.ring_records.specs.Snapshot.{Spells}
use Rattle.ring_records.proofs.SnapshotWhole.{one-spelled}
use Rattle.gated_journal.specs.Frames.{ReadsTo}
use Rattle.gated_journal.specs.Areas.{IsLayout, epoch_at, snapshot_at, Counts, HasBase, Begins, ReadsAt, ReadsAs}
use Rattle.gated_journal.specs.Reading.{Reading}
use Rattle.gated_journal.proofs.AreaBeside.{where_are}
use Rattle.gated_journal.proofs.Unique.{unique, header_unique}

-- an area that is read counts
pub counts : (n : ℕ) (image : List ℕ) (r : Reading) (start offset : ℕ) → (get_or image start 0 ≡ 1) × HasBase n start image r offset → Counts start image
counts n image r start offset area = record { gate = area.0; known = subst IsLayout area.1.layout area.1.known }

-- what is read, and where
pub record SameReading (r s : Reading) (start start2 other other2 offset offset2 gate_at gate_at2 : ℕ) : Type 0 where
  pub reading : r ≡ s
  pub start_is : start ≡ start2
  pub other_is : other ≡ other2
  pub offset_is : offset ≡ offset2
  pub gate_is : gate_at ≡ gate_at2

-- of two different areas only one is read
never_both : (header : Member) (image : List ℕ) (r s : Reading) (start start2 other other2 offset offset2 gate_at gate_at2 : ℕ) → other ≡ start2 → other2 ≡ start
    → ReadsAt header image r start other offset gate_at
    → ReadsAt header image s start2 other2 offset2 gate_at2 → ⊥
never_both header image r s start start2 other other2 offset offset2 gate_at gate_at2 first second one two = both one.begins two.begins
  where
    less : (get_or image start 0 ≡ 1) × HasBase header.n start image r offset → r.epoch < s.epoch
    less area =
        let below : epoch_at other2 image < s.epoch = two.older (subst (λ (p : ℕ). Counts p image) (sym second) (counts header.n image r start offset area)) in
        let here : epoch_at other2 image ≡ r.epoch = ap (λ (p : ℕ). epoch_at p image) second ∙ sym area.1.epoch in
        omega (arith, below, here)

    more : (get_or image start2 0 ≡ 1) × HasBase header.n start2 image s offset2 → s.epoch < r.epoch
    more area =
        let below : epoch_at other image < r.epoch = one.older (subst (λ (p : ℕ). Counts p image) (sym first) (counts header.n image s start2 offset2 area)) in
        let there : epoch_at other image ≡ s.epoch = ap (λ (p : ℕ). epoch_at p image) first ∙ sym area.1.epoch in
        omega (arith, below, there)

    both : Begins header.n start image r offset → Begins header.n start2 image s offset2 → ⊥
    both (inl a) (inl b) = let x = less a in let y = more b in omega (arith, x, y)
    both (inl a) (inr q) = let x = less a in omega (arith, x, q.epoch)
    both (inr p) (inl b) = let y = more b in omega (arith, y, p.epoch)
    both (inr p) (inr q) = omega (arith, p.start_is, q.start_is, first, second, one.areas.both)

-- what one of them begins with
record OneBeginning (r s : Reading) (offset offset2 : ℕ) : Type 0 where
  layout : r.layout ≡ s.layout
  epoch : r.epoch ≡ s.epoch
  base : r.base ≡ s.base
  offset_is : offset ≡ offset2

one_beginning : (n start : ℕ) (image : List ℕ) (r s : Reading) (offset offset2 : ℕ) → Begins n start image r offset → Begins n start image s offset2 → OneBeginning r s offset offset2
one_beginning n start image r s offset offset2 (inl a) (inl b) =
    let layout : r.layout ≡ s.layout = a.1.layout ∙ sym b.1.layout in
    record {
      layout = layout;
      epoch = a.1.epoch ∙ sym b.1.epoch;
      base = one-spelled r.layout n (snapshot_at start image) r.base s.base a.1.snapshot (subst (λ (k : ℕ). Spells k n (snapshot_at start image) s.base) (sym layout) b.1.snapshot);
      offset_is = a.1.offset_is ∙ sym b.1.offset_is;
    }
one_beginning n start image r s offset offset2 (inl a) (inr q) = absurd (q.none (subst (λ (k : ℕ). Counts k image) q.start_is (counts n image r start offset a)))
one_beginning n start image r s offset offset2 (inr p) (inl b) = absurd (p.none (subst (λ (k : ℕ). Counts k image) p.start_is (counts n image s start offset2 b)))
one_beginning n start image r s offset offset2 (inr p) (inr q) =
    record { layout = p.layout ∙ sym q.layout; epoch = p.epoch ∙ sym q.epoch; base = p.base ∙ sym q.base; offset_is = p.offset_is ∙ sym q.offset_is }

-- one area is read in one way
same_area : (header : Member) (image : List ℕ) (r s : Reading) (start other other2 offset offset2 gate_at gate_at2 : ℕ) → ReadsAt header image r start other offset gate_at
    → ReadsAt header image s start other2 offset2 gate_at2 → SameReading r s start start other other2 offset offset2 gate_at gate_at2
same_area header image r s start other other2 offset offset2 gate_at gate_at2 one two =
    let same = one_beginning header.n start image r s offset offset2 one.begins two.begins in
    let both = unique offset image r.inputs s.inputs gate_at gate_at2 one.frames
    (subst (λ (k : ℕ). ReadsTo k offset image s.inputs gate_at2) (sym same.layout) (subst (λ (p : ℕ). ReadsTo s.layout p image s.inputs gate_at2) (sym same.offset_is) two.frames)) in
    record {
      reading = λ i. record { layout = same.layout i; epoch = same.epoch i; base = same.base i; inputs = both.0 i };
      start_is = refl;
      other_is = omega (arith, one.areas.both, two.areas.both);
      offset_is = same.offset_is;
      gate_is = both.1;
    }

pub alone : (header : Member) (image : List ℕ) (r s : Reading) (start start2 other other2 offset offset2 gate_at gate_at2 : ℕ) → ReadsAt header image r start other offset gate_at
    → ReadsAt header image s start2 other2 offset2 gate_at2 → SameReading r s start start2 other other2 offset offset2 gate_at gate_at2
alone header image r s start start2 other other2 offset offset2 gate_at gate_at2 one two =
    ⊎_elim
    (λ (same : start ≡ start2). subst (λ (p : ℕ). SameReading r s start p other other2 offset offset2 gate_at gate_at2) same
    (same_area header image r s start other other2 offset offset2 gate_at gate_at2 one (subst (λ (p : ℕ). ReadsAt header image s p other2 offset2 gate_at2) (sym same) two)))
    (λ ne. absurd (apart ne)) (cases_eq start start2)
  where
    cross : other ≡ start2 → other2 ≡ start → ⊥
    cross first second = never_both header image r s start start2 other other2 offset offset2 gate_at gate_at2 first second one two

    apart : start ≢ start2 → ⊥
    apart ne =
        ⊎_elim
        (λ (a : (start ≡ 16) × (other ≡ 31 + header.capacity)). ⊎_elim (λ (c : (start2 ≡ 16) × (other2 ≡ 31 + header.capacity)). ne (a.0 ∙ sym c.0))
        (λ (d : (start2 ≡ 31 + header.capacity) × (other2 ≡ 16)). cross (a.1 ∙ sym d.0) (d.1 ∙ sym a.0)) (where_are header.capacity start2 other2 two.areas))
        (λ (b : (start ≡ 31 + header.capacity) × (other ≡ 16)). ⊎_elim (λ (c : (start2 ≡ 16) × (other2 ≡ 31 + header.capacity)). cross (b.1 ∙ sym c.0) (c.1 ∙ sym b.0))
        (λ (d : (start2 ≡ 31 + header.capacity) × (other2 ≡ 16)). ne (b.0 ∙ sym d.0)) (where_are header.capacity start2 other2 two.areas))
        (where_are header.capacity start other one.areas)

pub one_header : (header other : Member) (image : List ℕ) (r s : Reading) → ReadsAs header image r → ReadsAs other image s → header ≡ other
one_header header other image r s one two = header_unique header other image one.at.head two.at.head

pub one_reading : (header other : Member) (image : List ℕ) (r s : Reading) → ReadsAs header image r → ReadsAs other image s → r ≡ s
one_reading header other image r s one two =
    let here : ReadsAs header image s = subst (λ (m : Member). ReadsAs m image s) (sym (one_header header other image r s one two)) two in
    (alone header image r s one.start here.start one.other here.other one.offset here.offset one.gate_at here.gate_at one.at here.at).reading
