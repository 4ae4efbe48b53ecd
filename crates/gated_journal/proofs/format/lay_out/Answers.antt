use Rattle.std.proofs.Common.{◌≡◌, ◌+◌, ℕ, List, [], ◌∷◌, Bool, nat_lt, sym, ap, subst, arith}
use Rattle.std.proofs.lemmas.Bool.{lt-ltb, le-ltb}
use Rattle.disk_model.specs.Disk.{Disk}
use Rattle.disk_model.specs.Calls.{Puts}
use Rattle.ring_records.specs.Admission.{newest}
use Rattle.ring_records.specs.Member.{member}
use Rattle.ring_records.specs.Summary.{empty}
use Rattle.gated_journal.specs.Areas.{ReadsAt}
use Rattle.gated_journal.specs.AreaWritten.{new_areas, IsGate}
use Rattle.gated_journal.specs.Reading.{fresh_area}
use Rattle.gated_journal.proofs.AreaFormatted.{laid_short, laid_long, gate_short, gate_long}
use Rattle.gated_journal.proofs.Costs.{in_range}
use Rattle.gated_journal.proofs.format.lay_out.Goals as goal
use Rattle.gated_journal.proofs.format.lay_out.Goals.{then-is_there+in_ok-write_at-2, else-is_there}

pub returns-clause-reads : goal.returns-clause-reads
returns-clause-reads g c =
    let header = member c.args.node c.args.n c.args.capacity in
    let range = in_range header c.requires.range in
    let old = (g.D.Device.disk c.args.device.now).image in
    let mid = (g.D.Device.disk c.write_at.new.self).image in
    let P = λ (image : List ℕ). ReadsAt header image (fresh_area newest 1 empty) 16 (31 + c.args.capacity) 72 72 in
    let same : (g.D.Device.disk c.sync.new.self).image ≡ (g.D.Device.disk c.if-is_there.device).image = ap (λ (d : Disk). d.image) c.in_ok-sync.ensures.synced in
    let put : Puts 0 (new_areas header) old mid = subst (λ (l : List ℕ). Puts 0 l old mid) c.new_areas.ensures c.in_ok-write_at.ensures.written in
    let reads : P (g.D.Device.disk c.if-is_there.device).image =
    elim c.if-is_there.branch [
      | then-is_there+in_ok-write_at-2 w ↦ subst (λ d. P (g.D.Device.disk d).image) (sym w.device-is)
          (laid_long header old mid (g.D.Device.disk w.write_at-then-is_there.new.self).image range.0 range.1 put (subst (λ (o : ℕ). Puts o (0 ∷ []) mid (g.D.Device.disk w.write_at-then-is_there.new.self).image) c.area_b-second.ensures w.in_ok-write_at-2.ensures.written))
      | else-is_there w ↦ subst (λ d. P (g.D.Device.disk d).image) (sym w.device-is) (laid_short header old mid range.0 range.1 (omega (arith, w.if-is_there.false, c.size.ensures, c.area_b-second.ensures)) put)
    ] in
    subst P (sym same) reads

pub returns-clause-gate : goal.returns-clause-gate
returns-clause-gate g c =
    let header = member c.args.node c.args.n c.args.capacity in
    let range = in_range header c.requires.range in
    let old = (g.D.Device.disk c.args.device.now).image in
    let mid = (g.D.Device.disk c.write_at.new.self).image in
    let second = c.area_b-second.result in
    let b = nat_lt second c.size.result in
    let P = λ (x : Bool) (image : List ℕ). IsGate x (31 + c.args.capacity) image in
    let same : (g.D.Device.disk c.sync.new.self).image ≡ (g.D.Device.disk c.if-is_there.device).image = ap (λ (d : Disk). d.image) c.in_ok-sync.ensures.synced in
    let put : Puts 0 (new_areas header) old mid = subst (λ (l : List ℕ). Puts 0 l old mid) c.new_areas.ensures c.in_ok-write_at.ensures.written in
    let gate : P b (g.D.Device.disk c.if-is_there.device).image =
    elim c.if-is_there.branch [
      | then-is_there+in_ok-write_at-2 w ↦ subst (λ d. P b (g.D.Device.disk d).image) (sym w.device-is)
          (subst (λ (x : Bool). P x (g.D.Device.disk w.write_at-then-is_there.new.self).image) (sym (lt-ltb second c.size.result w.if-is_there.true))
          (gate_long header old mid (g.D.Device.disk w.write_at-then-is_there.new.self).image range.0 range.1 put (subst (λ (o : ℕ). Puts o (0 ∷ []) mid (g.D.Device.disk w.write_at-then-is_there.new.self).image) c.area_b-second.ensures w.in_ok-write_at-2.ensures.written)))
      | else-is_there w ↦ subst (λ d. P b (g.D.Device.disk d).image) (sym w.device-is)
          (subst (λ (x : Bool). P x mid) (sym (le-ltb second c.size.result w.if-is_there.false))
          (gate_short header old mid range.0 range.1 (omega (arith, w.if-is_there.false, c.size.ensures, c.area_b-second.ensures)) put))
    ] in
    subst (P b) (sym same) gate
