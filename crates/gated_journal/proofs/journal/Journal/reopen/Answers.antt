use Rattle.std.proofs.Common.{rules, ◌≡◌, inl, inr, ⊎_elim, ℕ, List, length, refl, sym, ◌∙◌, ap, subst, arith}
use Rattle.ring_records.specs.Admission.{costs_of}
use Rattle.ring_records.specs.Member.{member}
use Rattle.ring_records.specs.Snapshot.{snapshot_len}
use Rattle.gated_journal.specs.Areas.{ReadsAt}
use Rattle.gated_journal.specs.AreaWritten.{IsGate}
use Rattle.gated_journal.specs.InUse.{reading_of}
use Rattle.gated_journal.proofs.AreaBeside.{start_low}
use Rattle.gated_journal.proofs.AreaKept.{base_few, behind_base, base_sound}
use Rattle.gated_journal.proofs.AreaRest.{all_read, in_use}
use Rattle.gated_journal.proofs.Costs.{costs}
use Rattle.gated_journal.proofs.OnlyReads.{is_synced}
use Rattle.gated_journal.proofs.journal.Journal.reopen.Goals as goal

pub costs_of-requires : goal.costs_of-requires
costs_of-requires g c =
    let r = c.in-Ok.ensures.reads in
    let o = costs _ _ c.in-Ok.field-0.contents.inputs.items c.in-Ok.field-0.contents.gate_at r.frames in
    omega (arith, ap costs_of c.deref.ensures.value, o.bound, r.within, start_low _ _ _ r.areas, r.head.to)

pub overflow_add-place-in-Ok : goal.overflow_add-place-in-Ok
overflow_add-place-in-Ok g c =
    let f = c.in-Ok.field-0 in
    let r = c.in-Ok.ensures.reads in
    let o = costs _ _ f.contents.inputs.items f.contents.gate_at r.frames in
    omega (arith, c.costs_of.ensures, ap costs_of c.deref.ensures.value, c.summary_len.ensures.range, o.bound, r.within, start_low _ _ _ r.areas, r.head.to)

pub invariant_of-place : goal.invariant_of-place
invariant_of-place g c =
    let f = c.in-Ok.field-0 in
    let read = c.in-Ok.ensures.reads in
    let o = costs _ _ f.contents.inputs.items f.contents.gate_at read.frames in
    let count : length f.contents.inputs.items ≡ c.len.result = search rules in
    let sum : costs_of f.contents.inputs.items ≡ c.costs_of.result = sym (c.costs_of.ensures ∙ ap costs_of c.deref.ensures.value) in
    let bytes : snapshot_len f.area.layout f.contents.base ≡ c.summary_len.result = sym c.summary_len.ensures.value in
    let behind = behind_base c.args.n f.area.start _ (reading_of f.area f.contents) f.area.offset read.begins in
    let sound = base_sound c.args.n f.area.start _ (reading_of f.area f.contents) f.area.offset read.begins in
    record {
      areas = read.areas;
      within = omega (arith, o.within, behind, sum, bytes);
      counted = omega (arith, o.counted, sum, count, sound.inputs);
      least = read.head.from;
      small = read.head.to;
    }

pub invariant_of-journal : goal.invariant_of-journal
invariant_of-journal g c =
    let f = c.in-Ok.field-0 in
    let header = member c.args.node c.args.n f.capacity in
    let disk = g.D.Device.disk c.open.new.device in
    let a = f.area in
    let r = reading_of a f.contents in
    let same = sym c.open.ensures.device.image in
    record {
      settled = λ ready. in_use header disk _ r (record {
        rest = record { synced = is_synced g.D.Device _ _ _ _ _ c.in-Ok.is c.open.ensures.device; gate = subst (λ (l : List ℕ). IsGate a.is_closed a.other l) same c.in-Ok.ensures.gate };
        here = record {
          capacity = refl;
          at = subst (λ (l : List ℕ). ReadsAt header l r a.start a.other a.offset f.contents.gate_at) same c.in-Ok.ensures.reads;
          layout = refl;
          epoch = refl;
          count = omega (arith, c.len.ensures);
          used = omega (arith, c.summary_len.ensures.value, c.costs_of.ensures, ap costs_of c.deref.ensures.value);
        };
      });
    }

pub returns-in-Ok-clause-reads : goal.returns-in-Ok-clause-reads
returns-in-Ok-clause-reads g c =
    let f = c.in-Ok.field-0 in
    record { start = f.area.start; other = f.area.other; offset = f.area.offset; gate_at = f.contents.gate_at; at = c.in-Ok.ensures.reads }

pub returns-in-Ok-clause-holds : goal.returns-in-Ok-clause-holds
returns-in-Ok-clause-holds g c =
    let f = c.in-Ok.field-0 in
    let header = member c.args.node c.args.n f.capacity in
    let disk = g.D.Device.disk c.open.new.device in
    let a = f.area in
    let r = reading_of a f.contents in
    record {
      durable = all_read header disk r a.start a.other a.offset f.contents.gate_at (is_synced g.D.Device _ _ _ _ _ c.in-Ok.is c.open.ensures.device) (subst (λ (l : List ℕ). ReadsAt header l r a.start a.other a.offset f.contents.gate_at) (sym c.open.ensures.device.image) c.in-Ok.ensures.reads);
      ready = refl;
      len = omega (arith, c.len.ensures);
      room = omega (arith, c.summary_len.ensures.value, c.costs_of.ensures, ap costs_of c.deref.ensures.value);
      layout = refl;
      epoch = refl;
    }

pub returns-in-Ok-clause-sound : goal.returns-in-Ok-clause-sound
returns-in-Ok-clause-sound g c =
    let f = c.in-Ok.field-0 in
    base_sound c.args.n f.area.start _ (reading_of f.area f.contents) f.area.offset c.in-Ok.ensures.reads.begins

pub summary_len-requires : goal.summary_len-requires
summary_len-requires g c =
    let f = c.in-Ok.field-0 in
    record { floors = base_few c.args.n f.area.start _ (reading_of f.area f.contents) f.area.offset c.in-Ok.ensures.reads.begins }

pub returns-in-Err-clause-works : goal.returns-in-Err-clause-works
returns-in-Err-clause-works g c = λ reach. ⊎_elim (λ memory. inl memory.2) (λ unread. inr unread) (c.in-Err.ensures.device.works reach)
