use Rattle.std.proofs.Common.{◌≡◌, ◌≤◌, ◌+◌, ◌-◌, ℕ, Bool, List, length, Result, Ok, Err, OnOk, refl, sym, ◌∙◌, subst, ap, arith}
use Rattle.disk_model.proofs.Moments.{weaken}
use Rattle.ring_records.specs.Admission.{costs_of, newest}
use Rattle.ring_records.specs.Member.{Member}
use Rattle.ring_records.specs.Snapshot.{snapshot_len}
use Rattle.gated_journal.specs.Areas.{ReadsAt, ReadsAsOneOf}
use Rattle.gated_journal.specs.AreaWritten.{IsGate, MayReplace, leaves_closed, IsFrame}
use Rattle.gated_journal.specs.Frames.{AreSuited}
use Rattle.gated_journal.specs.Place.{reading_behind, IsReadHere, IsTakenAt, Stands}
use Rattle.gated_journal.specs.Reading.{Reading, fresh_area, with_more}
use Rattle.gated_journal.specs.declared.batch.Batch.{Batch}
use Rattle.gated_journal.specs.declared.checkpoint.Checkpoint.{Checkpoint}
use Rattle.gated_journal.specs.declared.place.Place.{Place}
use Rattle.gated_journal.specs.declared.work.Work.{Work}
use Rattle.gated_journal.specs.declared.work.Work.TheVariants as works
use Rattle.gated_journal.proofs.FewFloors.{few_floors}
use Rattle.gated_journal.proofs.AreaBeside.{start_low, swapped}
use Rattle.gated_journal.proofs.AreaRest.{checkpoint_moment, commit_moment, commit_stands}
use Rattle.gated_journal.proofs.AreaStaged.{length-new_area}
use Rattle.gated_journal.proofs.Costs.{fits}
use Rattle.gated_journal.proofs.Suited.{frame-suited}
use Rattle.gated_journal.proofs.place.Place.put.Goals as goal

both : {T E : Type 0} (r : Result T E) (A B C : Type 0) → OnOk r A → OnOk r B → (A → B → C) → OnOk r C
both (Ok v) A B C a b to = to a b
both (Err e) A B C a b to = tt

-- ---- a batch

-- a place with room for the batch
record HasRoom (p : Place) (b : Batch) : Type 0 where
  long : length b.bytes.items ≤ costs_of b.flown.inputs.items
  many : length b.flown.inputs.items ≤ costs_of b.flown.inputs.items
  ends : p.used + costs_of b.flown.inputs.items ≤ p.capacity
  low : p.area.start ≤ 31 + p.capacity

has_room : (p : Place) (w : Work) (b : Batch) → w ≡ works.Batch b → (header : Member) × IsTakenAt header p w → HasRoom p b
has_room p w b is taken =
    let f = fits b.flown.inputs.items b.bytes.items b.framed in
    let t = subst (λ (x : Work). (header : Member) × IsTakenAt header p x) is taken in
    let room : costs_of b.flown.inputs.items ≤ p.capacity - p.used = t.1.2 in
    record { long = f.within; many = f.count; ends = omega (arith, room, f.some); low = start_low p.capacity p.area.start p.area.other p.areas }

pub append-written-requires : goal.append-written-requires
append-written-requires g c =
    let p = c.args.self.now in
    let h = has_room p c.args.work c.in-Batch.batch c.in-Batch.is c.requires in
    omega (arith, ap length c.deref.ensures.value, h.long, h.ends, h.low, p.within, p.small)

pub overflow_add-next : goal.overflow_add-next
overflow_add-next g c =
    let p = c.args.self.now in
    let h = has_room p c.args.work c.in-Batch.batch c.in-Batch.is c.requires in
    omega (arith, c.len.ensures, h.long, h.ends, h.low, p.within, p.small)

pub overflow_add-next-in-Batch : goal.overflow_add-next-in-Batch
overflow_add-next-in-Batch g c =
    let p = c.args.self.now in
    let h = has_room p c.args.work c.in-Batch.batch c.in-Batch.is c.requires in
    omega (arith, c.len-in-Batch.ensures, h.many, h.ends, p.counted, p.small)

pub invariant_of-next : goal.invariant_of-next
invariant_of-next g c =
    let p = c.args.self.now in
    let b = c.in-Batch.batch in
    let h = has_room p c.args.work b c.in-Batch.is c.requires in
    record {
      areas = p.areas;
      within = omega (arith, p.within, c.len.ensures, h.long, c.from.ensures, b.counted);
      counted = omega (arith, p.counted, c.len-in-Batch.ensures, h.many, c.from.ensures, b.counted);
      least = p.least;
      small = p.small;
    }

pub returns-in-Batch-clause-any_moment : goal.returns-in-Batch-clause-any_moment
returns-in-Batch-clause-any_moment g c = rw c.in-Batch.is (λ header r taken s.
    let p = c.args.self.now in
    let d = c.args.device.now in
    let b = c.in-Batch.batch in
    let l = b.flown.inputs.items in
    let h = has_room p c.args.work b c.in-Batch.is c.requires in
    let within : p.gate_at + length c.deref.result.now ≤ p.area.start + 14 + header.capacity = omega (arith, ap length c.deref.ensures.value, h.long, h.ends, p.within, s.here.capacity) in
    weaken g.D.Device.clock g.D.Device.left_since d c.append-written.new.device _ (ReadsAsOneOf header r (with_more r l))
    (λ image moment. commit_moment header (g.D.Device.disk d).image image r l p.area.start p.area.other p.area.offset p.gate_at (length c.deref.result.now) s.here.at within moment)
    (c.append-written.ensures.any_moment r.layout p.area.offset r.inputs l s.rest.synced s.here.at.frames (subst (IsFrame r.layout l) (sym c.deref.ensures.value) (frame-suited r.layout newest l b.bytes.items b.framed (subst (λ (k : ℕ). AreSuited k l) (sym s.here.layout) taken.3)))))

pub returns-in-Batch-clause-done : goal.returns-in-Batch-clause-done
returns-in-Batch-clause-done g c = both c.append-written.result _ _ _ c.append-written.ensures.synced c.append-written.ensures.done (λ synced done header r taken s.
    let p = c.args.self.now in
    let b = c.in-Batch.batch in
    let l = b.flown.inputs.items in
    let h = has_room p c.args.work b c.in-Batch.is c.requires in
    let t : IsTakenAt header p (works.Batch b) = subst (IsTakenAt header p) c.in-Batch.is taken in
    let suited = subst (λ (k : ℕ). AreSuited k l) (sym s.here.layout) t.3 in
    let long : c.len.result ≡ length c.deref.result.now = omega (arith, c.len.ensures, ap length c.deref.ensures.value) in
    let within : p.gate_at + length c.deref.result.now ≤ p.area.start + 14 + header.capacity = omega (arith, ap length c.deref.ensures.value, h.long, h.ends, p.within, s.here.capacity) in
    subst (Stands header (g.D.Device.disk c.append-written.new.device) _) (ap (λ w. reading_behind p w r) (sym c.in-Batch.is))
    (commit_stands header (g.D.Device.disk c.args.device.now) (g.D.Device.disk c.append-written.new.device) p _ r l (length c.deref.result.now) s synced within
    (done r.layout p.area.offset r.inputs l s.rest.synced s.here.at.frames (subst (IsFrame r.layout l) (sym c.deref.ensures.value) (frame-suited r.layout newest l b.bytes.items b.framed suited)))
    refl refl (omega (arith, long)) (omega (arith, c.len-in-Batch.ensures)) (omega (arith, c.from.ensures, b.counted))))

pub returns-in-Batch-clause-reach : goal.returns-in-Batch-clause-reach
returns-in-Batch-clause-reach g c =
    let p = c.args.self.now in
    let h = has_room p c.args.work c.in-Batch.batch c.in-Batch.is c.requires in
    record {
      same = c.append-written.ensures.reach.same;
      works = λ reach. c.append-written.ensures.reach.works (record { reliable = reach.reliable; within = omega (arith, ap length c.deref.ensures.value, h.long, h.ends, h.low, p.within, reach.within) });
    }

-- ---- a checkpoint

pub summary_len-used-requires : goal.summary_len-used-requires
summary_len-used-requires g c = record { floors = few_floors c.in-Checkpoint.made.base c.in-Checkpoint.made.short }

-- the other area may be replaced
may_replace : (header : Member) (image : List ℕ) (p : Place) (r : Reading) (k : Checkpoint) → IsTakenAt header p (works.Checkpoint k) → IsReadHere header image p r
    → IsGate p.area.is_closed p.area.other image
    → MayReplace header image r p.area.start p.area.other p.area.offset p.gate_at p.area.is_closed (p.area.epoch + 1) k.base
may_replace header image p r k taken here gate = record {
  reads = here.at;
  gate = gate;
  newer = omega (arith, here.epoch);
  small = taken.4;
  spells = record { is = refl; sound = taken.3; few_keys = k.few_keys; few_floors = few_floors k.base k.short; none = λ old. absurd (omega (arith, old)); plain = λ old. absurd (omega (arith, old)) };
  fits = subst (λ (n : ℕ). snapshot_len newest k.base ≤ n) here.capacity taken.2;
}

pub returns-in-Checkpoint-clause-any_moment : goal.returns-in-Checkpoint-clause-any_moment
returns-in-Checkpoint-clause-any_moment g c = rw c.in-Checkpoint.is (λ header r taken s.
    let p = c.args.self.now in
    let d = c.args.device.now in
    let k = c.in-Checkpoint.made in
    let next = fresh_area newest (p.area.epoch + 1) k.base in
    weaken g.D.Device.clock g.D.Device.left_since d c.replace_area-written.new.device _ (ReadsAsOneOf header r next)
    (λ image moment. checkpoint_moment header image r next p.area.start p.area.other p.area.offset p.gate_at (p.area.other + 14 + snapshot_len newest k.base) moment)
    (c.replace_area-written.ensures.any_moment header r p.area.start p.area.offset p.gate_at (p.area.epoch + 1) k.base s.rest.synced
    (may_replace header (g.D.Device.disk d).image p r k taken s.here s.rest.gate) (c.deref-in-Checkpoint.ensures.value ∙ c.number.ensures k.base k.framed)))

pub returns-in-Checkpoint-clause-done : goal.returns-in-Checkpoint-clause-done
returns-in-Checkpoint-clause-done g c = both c.replace_area-written.result _ _ _ c.replace_area-written.ensures.synced c.replace_area-written.ensures.done (λ synced done header r taken s.
    let p = c.args.self.now in
    let k = c.in-Checkpoint.made in
    let left = done header r p.area.start p.area.offset p.gate_at (p.area.epoch + 1) k.base (may_replace header (g.D.Device.disk c.args.device.now).image p r k (subst (IsTakenAt header p) c.in-Checkpoint.is taken) s.here s.rest.gate)
    (c.deref-in-Checkpoint.ensures.value ∙ c.number.ensures k.base k.framed) in
    let used = sym c.summary_len-used.ensures.value in
    subst (Stands header (g.D.Device.disk c.replace_area-written.new.device) _) (ap (λ w. reading_behind p w r) (sym c.in-Checkpoint.is)) (record {
      rest = record {
        synced = synced;
        gate = subst (λ (b : Bool). IsGate b p.area.start (g.D.Device.disk c.replace_area-written.new.device).image) (ap (λ (k : ℕ). leaves_closed k p.area.start p.gate_at) s.here.layout ∙ sym c.leaves_closed.ensures) left.1;
      };
      here = record {
        capacity = s.here.capacity;
        at = subst (λ (n : ℕ). ReadsAt header (g.D.Device.disk c.replace_area-written.new.device).image (fresh_area newest (p.area.epoch + 1) k.base) p.area.other p.area.start (p.area.other + 14 + n) (p.area.other + 14 + n)) used left.0;
        layout = refl;
        epoch = refl;
        count = omega arith;
        used = omega (arith, used);
      };
    }))

pub returns-in-Checkpoint-clause-reach : goal.returns-in-Checkpoint-clause-reach
returns-in-Checkpoint-clause-reach g c =
    let p = c.args.self.now in
    let k = c.in-Checkpoint.made in
    let bytes : length c.deref-in-Checkpoint.result.now ≡ 14 + snapshot_len newest k.base = ap length (c.deref-in-Checkpoint.ensures.value ∙ c.number.ensures k.base k.framed) ∙ length-new_area newest (p.area.epoch + 1) k.base in
    let t = subst (λ (w : Work). (header : Member) × IsTakenAt header p w) c.in-Checkpoint.is c.requires in
    let low = start_low p.capacity p.area.other p.area.start (swapped p.capacity p.area.start p.area.other p.areas) in
    record {
      same = c.replace_area-written.ensures.reach.same;
      works = λ reach. c.replace_area-written.ensures.reach.works (record { reliable = reach.reliable; within = omega (arith, bytes, low, t.1.2, reach.within) });
    }
