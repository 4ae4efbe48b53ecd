use Rattle.std.proofs.Common.{◌≡◌, length, sym, ◌∙◌, ap}
use Rattle.disk_model.specs.Disk.{Disk}
use Rattle.gated_journal.proofs.OnlyReads.{then}
use Rattle.gated_journal.proofs.Results.{on_value, on_err}
use Rattle.gated_journal.proofs.area.choose_area.Goals as goal

-- the size is that of the image
sized : (g : _) (c : goal.After-pick g) → length (g.D.Device.disk c.args.device.now).image ≡ c.size.result
sized g c = ap (λ (d : Disk). length d.image) (sym c.read_heads.ensures.device.kept) ∙ sym c.size.ensures

pub returns-in-Ok-clause-used : goal.returns-in-Ok-clause-used
returns-in-Ok-clause-used g c = on_value c.pick.result _ _ (λ chosen used. used (g.D.Device.disk c.args.device.now).image (sized g c) c.requires.marked c.in-Ok.ensures.a c.in-Ok.ensures.b) c.pick.ensures.used

pub returns-in-Ok-clause-device : goal.returns-in-Ok-clause-device
returns-in-Ok-clause-device g c =
    let D = g.D.Device in
    then D _ c.args.device.now c.read_heads.new.device c.read_heads.result _ c.pick.result _ _ c.in-Ok.is
    (on_err c.pick.result _ _ (λ refusal broken n. broken n (D.disk c.args.device.now).image (sized g c) c.requires.marked c.in-Ok.ensures.a c.in-Ok.ensures.b) c.pick.ensures.broken) c.read_heads.ensures.device
