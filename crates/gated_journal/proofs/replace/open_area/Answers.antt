use Rattle.std.proofs.Common.{◌≡◌, ◌+◌, inl, inr, ⊎_elim, ℕ, [], ◌∷◌, get_or, sym, ◌∙◌, ap, arith}
use Rattle.std.proofs.lemmas.Bool.{cases_eq}
use Rattle.disk_model.proofs.Changed.{torn_changes, puts_changes}
use Rattle.disk_model.proofs.Moments.{weaken}
use Rattle.gated_journal.specs.AreaWritten.{ReadsAtOneOf}
use Rattle.gated_journal.proofs.AreaShut.{still_old, now_new, gate_behind}
use Rattle.gated_journal.proofs.Results.{on_ok}
use Rattle.gated_journal.proofs.replace.open_area.Goals as goal

pub returns-clause-any_moment : goal.returns-clause-any_moment
returns-clause-any_moment g c = λ header old r start offset gate_at next is reads stage fits newer.
    let d = c.args.device.now in
    let disk = g.D.Device.disk d in
    let other = c.args.other in
    weaken g.D.Device.clock g.D.Device.left_since d c.write_through.new.device _ (ReadsAtOneOf header old start other offset gate_at r next)
    (λ image torn.
    let changes = torn_changes other 1 disk image is torn in
    ⊎_elim (λ (is_open : get_or image other 0 ≡ 1). inr (now_new header disk.image image old r start other offset gate_at next reads stage fits newer changes is_open))
    (λ shut. inl (still_old header disk.image image old r start other offset gate_at next reads stage fits newer changes shut)) (cases_eq (get_or image other 0) 1)) c.write_through.ensures.any_moment

pub returns-clause-done : goal.returns-clause-done
returns-clause-done g c =
    let old_image = (g.D.Device.disk c.args.device.now).image in
    let image = (g.D.Device.disk c.write_through.new.device).image in
    let other = c.args.other in
    on_ok c.write_through.result _ _ (λ put header old r start offset gate_at next reads stage fits newer.
    let at : other + 0 ≡ other = omega arith in
    let is_open : get_or image other 0 ≡ 1 = ap (λ (i : ℕ). get_or image i 0) (sym at) ∙ put.here 0 (omega arith) in
    let changes = puts_changes other (1 ∷ []) old_image image put in (
      now_new header old_image image old r start other offset gate_at next reads stage fits newer changes is_open,
      gate_behind header old_image image old r start other offset gate_at next reads stage fits newer changes,
    )) c.write_through.ensures.written
