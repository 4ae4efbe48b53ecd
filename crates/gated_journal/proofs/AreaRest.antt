-- A journal of two areas at rest: one batch more, and another area in its place.
use Rattle.std.proofs.Common.{◌≡◌, inl, inr, ⊎_elim, ℕ, ◌+◌, ◌≤◌, List, ◌++◌, length, sym, ◌∙◌, ap, subst, arith, length-append}
use Rattle.std.proofs.Math.Logic.{∥∥₁_elim}
use Rattle.std.proofs.Math.Nat.{ℕ_set}
use Rattle.std.proofs.Math.Bridge.{le_prop}
use Rattle.disk_model.specs.Disk.{Disk, MayLeave}
use Rattle.disk_model.specs.Synced.{IsSynced}
use Rattle.disk_model.specs.Calls.{Changes}
use Rattle.disk_model.proofs.Ranges.{synced_only}
use Rattle.ring_records.specs.declared.input.Input.{Input}
use Rattle.ring_records.specs.Admission.{costs_of}
use Rattle.ring_records.specs.Member.{Member}
use Rattle.ring_records.proofs.Counts.{costs-joined}
use Rattle.gated_journal.specs.Frames.{ReadsTo}
use Rattle.gated_journal.specs.AreaWritten.{Appends, ReadsAtOneOf, IsGate}
use Rattle.gated_journal.specs.Areas.{ReadsAt, AllReadAs, ReadsAsOneOf}
use Rattle.gated_journal.specs.Place.{IsInUse, IsReadHere, Stands}
use Rattle.gated_journal.specs.Reading.{Reading, with_more}
use Rattle.gated_journal.specs.Opened.{count_in, used_in}
use Rattle.gated_journal.specs.declared.area.Chosen.{Chosen}
use Rattle.gated_journal.specs.declared.place.Place.{Place}
use Rattle.gated_journal.proofs.AreaAlone.{alone}
use Rattle.gated_journal.proofs.AreaBeside.{grown, gate_grown}

-- where nothing waits for a sync, a stop leaves what is read
pub all_read : (header : Member) (disk : Disk) (r : Reading) (start other offset gate_at : ℕ) → IsSynced disk → ReadsAt header disk.image r start other offset gate_at → AllReadAs header disk r
all_read header disk r start other offset gate_at is read image left =
    record { start = start; other = other; offset = offset; gate_at = gate_at; at = subst (λ (l : List ℕ). ReadsAt header l r start other offset gate_at) (sym (synced_only disk image is left)) read }

pub in_use : (header : Member) (disk : Disk) (p : Place) (r : Reading) → Stands header disk p r → IsInUse header disk p
in_use header disk p r s = record { rest = s.rest; reads = ∣ (r, s.here) ∣₁ }

-- what all images read as is read at the journal's place
pub read_here : (header : Member) (disk : Disk) (p : Place) (r : Reading) → IsInUse header disk p → MayLeave disk disk.image → AllReadAs header disk r → Stands header disk p r
read_here header disk p r used stays all =
    let read = all disk.image stays in
    let a = p.area in
    let same = λ (s : Reading) (h : IsReadHere header disk.image p s). alone header disk.image r s read.start a.start read.other a.other read.offset a.offset read.gate_at p.gate_at read.at h.at in
    let s = ∥∥₁_elim used.reads (ℕ_set read.start a.start) (λ t. (same t.0 t.1).start_is) in
    let o = ∥∥₁_elim used.reads (ℕ_set read.other a.other) (λ t. (same t.0 t.1).other_is) in
    let f = ∥∥₁_elim used.reads (ℕ_set read.offset a.offset) (λ t. (same t.0 t.1).offset_is) in
    let g = ∥∥₁_elim used.reads (ℕ_set read.gate_at p.gate_at) (λ t. (same t.0 t.1).gate_is) in
    record {
      rest = used.rest;
      here = record {
        capacity = ∥∥₁_elim used.reads (ℕ_set p.capacity header.capacity) (λ t. t.1.capacity);
        at = subst (λ (k : ℕ). ReadsAt header disk.image r k a.other a.offset p.gate_at) s
            (subst (λ (k : ℕ). ReadsAt header disk.image r read.start k a.offset p.gate_at) o
            (subst (λ (k : ℕ). ReadsAt header disk.image r read.start read.other k p.gate_at) f
            (subst (λ (k : ℕ). ReadsAt header disk.image r read.start read.other read.offset k) g read.at)));
        layout = ∥∥₁_elim used.reads (ℕ_set r.layout a.layout) (λ t. ap (λ (x : Reading). x.layout) (same t.0 t.1).reading ∙ t.1.layout);
        epoch = ∥∥₁_elim used.reads (ℕ_set r.epoch a.epoch) (λ t. ap (λ (x : Reading). x.epoch) (same t.0 t.1).reading ∙ t.1.epoch);
        count = ∥∥₁_elim used.reads (ℕ_set (count_in r) p.count) (λ t. ap count_in (same t.0 t.1).reading ∙ t.1.count);
        used = ∥∥₁_elim used.reads (ℕ_set (used_in r) p.used) (λ t. ap used_in (same t.0 t.1).reading ∙ t.1.used);
      };
    }

-- where each reading of the old place is followed by one of the new
pub goes_on : (header : Member) (old new : Disk) (p next : Place) (f : Reading → Reading) → IsInUse header old p → IsSynced new
    → ((r : Reading) → Stands header old p r → Stands header new next (f r)) → IsInUse header new next
goes_on header old new p next f used is step =
    let stands = λ (t : (r : Reading) × IsReadHere header old.image p r). step t.0 (record { rest = used.rest; here = t.1 }) in
    record {
      rest = record { synced = is; gate = ∥∥₁_elim used.reads (hlevel (le_prop, ℕ_set)) (λ t. (stands t).rest.gate) };
      reads = ∥∥₁_elim used.reads (hlevel) (λ t. ∣ (f t.0, (stands t).here) ∣₁);
    }

-- ---- a commit

pub count-more : (r : Reading) (batch : List Input) → count_in (with_more r batch) ≡ count_in r + length batch
count-more r batch = omega (arith, length-append r.inputs batch)

pub used-more : (r : Reading) (batch : List Input) → used_in (with_more r batch) ≡ used_in r + costs_of batch
used-more r batch = omega (arith, costs-joined r.inputs batch)

-- each moment of it
pub commit_moment : (header : Member) (old image : List ℕ) (r : Reading) (batch : List Input) (start other offset gate_at n : ℕ) → ReadsAt header old r start other offset gate_at
    → gate_at + n ≤ start + 14 + header.capacity
    → Appends r.layout offset r.inputs batch gate_at n old image → ReadsAsOneOf header r (with_more r batch) image
commit_moment header old image r batch start other offset gate_at n read room moment =
    let grows = grown header old image r start other offset gate_at read (1 + n) moment.changes (omega (arith, room)) in
    ⊎_elim (λ (before : ReadsTo r.layout offset image r.inputs gate_at). inl (record { start = start; other = other; offset = offset; gate_at = gate_at; at = grows r.inputs gate_at before read.within }))
    (λ (after : ReadsTo r.layout offset image (r.inputs ++ batch) (gate_at + n)). inr (record { start = start; other = other; offset = offset; gate_at = gate_at + n; at = grows (r.inputs ++ batch) (gate_at + n) after room })) moment.frames

-- and what it leaves
pub commit_stands : (header : Member) (old new : Disk) (p next : Place) (r : Reading) (batch : List Input) (n : ℕ) → Stands header old p r → IsSynced new
    → p.gate_at + n ≤ p.area.start + 14 + header.capacity
    → ReadsTo r.layout p.area.offset new.image (r.inputs ++ batch) (p.gate_at + n) × Changes p.gate_at (1 + n) old.image new.image
    → next.capacity ≡ p.capacity → next.area ≡ p.area → next.gate_at ≡ p.gate_at + n → next.count ≡ p.count + length batch → next.used ≡ p.used + costs_of batch → Stands header new next (with_more r batch)
commit_stands header old new p next r batch n s is room done capacity area gate_at count used =
    let a = p.area in
    let read = grown header old.image new.image r a.start a.other a.offset p.gate_at s.here.at (1 + n) done.1 (omega (arith, room)) (r.inputs ++ batch) (p.gate_at + n) done.0 room in
    record {
      rest = record {
        synced = is;
        gate = subst (λ (x : Chosen). IsGate x.is_closed x.other new.image) (sym area) (gate_grown header old.image new.image r a.start a.other a.offset p.gate_at s.here.at (1 + n) done.1 (omega (arith, room)) a.is_closed s.rest.gate);
      };
      here = record {
        capacity = capacity ∙ s.here.capacity;
        at = subst (λ (x : Chosen). ReadsAt header new.image (with_more r batch) x.start x.other x.offset next.gate_at) (sym area) (subst (λ (k : ℕ). ReadsAt header new.image (with_more r batch) a.start a.other a.offset k) (sym gate_at) read);
        layout = s.here.layout ∙ ap (λ (x : Chosen). x.layout) (sym area);
        epoch = s.here.epoch ∙ ap (λ (x : Chosen). x.epoch) (sym area);
        count = count-more r batch ∙ (ap (λ (k : ℕ). k + length batch) s.here.count ∙ sym count);
        used = used-more r batch ∙ (ap (λ (k : ℕ). k + costs_of batch) s.here.used ∙ sym used);
      };
    }

-- ---- a checkpoint

pub checkpoint_moment : (header : Member) (image : List ℕ) (old new : Reading) (start other offset gate_at next : ℕ) → ReadsAtOneOf header old start other offset gate_at new next image
    → ReadsAsOneOf header old new image
checkpoint_moment header image old new start other offset gate_at next moment =
    ⊎_elim (λ (before : ReadsAt header image old start other offset gate_at). inl (record { start = start; other = other; offset = offset; gate_at = gate_at; at = before }))
    (λ (after : ReadsAt header image new other start next next). inr (record { start = other; other = start; offset = next; gate_at = next; at = after })) moment
