use Rattle.std.proofs.Common.{◌+◌, ℕ, sym, ◌∙◌, subst, arith, refl}
use Rattle.ring_records.specs.Admission.{newest}
use Rattle.ring_records.specs.Member.{member}
use Rattle.ring_records.specs.Summary.{empty}
use Rattle.ring_records.proofs.Snapshots.{length-empty}
use Rattle.gated_journal.specs.Areas.{AreAreas, ReadsAt}
use Rattle.gated_journal.specs.AreaWritten.{IsGate}
use Rattle.gated_journal.specs.Reading.{fresh_area}
use Rattle.gated_journal.proofs.AreaRest.{all_read, in_use}
use Rattle.gated_journal.proofs.Costs.{in_range}
use Rattle.gated_journal.proofs.journal.Journal.format.Goals as goal

pub invariant_of-place : goal.invariant_of-place
invariant_of-place g c =
    let range = in_range (member c.args.node c.args.n c.args.capacity) (sym c.is_header.ensures ∙ c.if-not-is_header.false) in
    record {
      areas = subst (λ (k : ℕ). AreAreas c.args.capacity 16 k) (sym c.area_b.ensures) (record { both = omega arith; one = λ ne. absurd (ne refl) });
      within = omega arith;
      counted = omega arith;
      least = range.0;
      small = range.1;
    }

pub invariant_of-result : goal.invariant_of-result
invariant_of-result g c =
    let header = member c.args.node c.args.n c.args.capacity in
    let disk = g.D.Device.disk c.lay_out.new.device in
    let second = sym c.area_b.ensures in
    record {
      settled = λ ready. in_use header disk _ (fresh_area newest 1 empty) (record {
        rest = record { synced = c.in-Ok.ensures.synced; gate = subst (λ (k : ℕ). IsGate c.in-Ok.is_closed k disk.image) second c.in-Ok.ensures.gate };
        here = record {
          capacity = refl;
          at = subst (λ (k : ℕ). ReadsAt header disk.image (fresh_area newest 1 empty) 16 k 72 72) second c.in-Ok.ensures.reads;
          layout = refl;
          epoch = refl;
          count = omega arith;
          used = omega (arith, length-empty newest (omega arith));
        };
      });
    }

pub returns-in-Ok-clause-empty : goal.returns-in-Ok-clause-empty
returns-in-Ok-clause-empty g c =
    let header = member c.args.node c.args.n c.args.capacity in
    all_read header (g.D.Device.disk c.lay_out.new.device) (fresh_area newest 1 empty) 16 (31 + c.args.capacity) 72 72 c.in-Ok.ensures.synced c.in-Ok.ensures.reads
