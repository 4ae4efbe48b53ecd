use Rattle.std.proofs.Common.{inl, inr, ⊎_elim, sym, subst}
use Rattle.disk_model.specs.Disk.{Disk}
use Rattle.gated_journal.specs.InUse.{IsInUseBy}
use Rattle.gated_journal.specs.Damage.{AreAreasUnread}
use Rattle.gated_journal.specs.OnlyReads.{MemoryOr}
use Rattle.gated_journal.proofs.OnlyReads.{refused, then_reads}
use Rattle.gated_journal.proofs.contents.read_areas.Goals as goal

pub read_area-requires : goal.read_area-requires
read_area-requires g c = record { used = subst (λ (d : Disk). IsInUseBy c.args.capacity d.image c.in-Ok.area) (sym c.choose_area.ensures.device.kept) c.in-Ok.ensures.used }

pub returns-in-Err-clause-device : goal.returns-in-Err-clause-device
returns-in-Err-clause-device g c =
    let D = g.D.Device in
    refused D _ c.args.device.now c.choose_area.new.device c.choose_area.result c.in-Err.refusal _ _ c.in-Err.is (λ unread. inr (unread c.args.n)) c.choose_area.ensures.device

pub returns-in-Err-read_area-clause-device : goal.returns-in-Err-read_area-clause-device
returns-in-Err-read_area-clause-device g c =
    let D = g.D.Device in
    let told = c.in-Err-read_area.refusal in
    let read = then_reads D c.args.device.now c.choose_area.new.device c.read_area.new.device c.choose_area.result _ c.read_area.result _ _
    (MemoryOr (AreAreasUnread c.args.n c.args.capacity (D.disk c.args.device.now).image)) c.in-Ok.is
    (λ e. ⊎_elim (λ memory. inl memory) (λ unread. inr (subst (λ (d : Disk). AreAreasUnread c.args.n c.args.capacity d.image e) c.choose_area.ensures.device.kept unread))) c.choose_area.ensures.device c.read_area.ensures.device in
    refused D _ c.args.device.now c.read_area.new.device c.read_area.result told _ _ c.in-Err-read_area.is (λ cause. cause) read
