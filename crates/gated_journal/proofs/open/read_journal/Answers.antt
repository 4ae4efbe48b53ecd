use Rattle.std.proofs.Common.{inl, inr, ⊎_elim, refl, sym, subst}
use Rattle.disk_model.specs.Disk.{Disk}
use Rattle.ring_records.specs.Member.{member}
use Rattle.gated_journal.specs.Areas.{ReadsAt}
use Rattle.gated_journal.specs.InUse.{reading_of}
use Rattle.gated_journal.specs.Damage.{AreAreasUnread}
use Rattle.gated_journal.specs.Reading.{HasHeader}
use Rattle.gated_journal.specs.Unread.{IsNoJournal}
use Rattle.gated_journal.proofs.AreaFound.{area_found}
use Rattle.gated_journal.proofs.Head.{header_found}
use Rattle.gated_journal.proofs.OnlyReads.{refused, then_reads}
use Rattle.gated_journal.proofs.open.read_journal.Goals as goal

pub returns-in-Ok-read_areas-clause-reads : goal.returns-in-Ok-read_areas-clause-reads
returns-in-Ok-read_areas-clause-reads g c =
    let header = member c.args.node c.args.n c.in-Ok.capacity in
    let kept = c.read_header.ensures.device.kept in
    let head = header_found c.args.node c.args.n c.in-Ok.capacity (g.D.Device.disk c.args.device.now).image c.in-Ok.ensures.header in
    let here = subst (λ (d : Disk). HasHeader header d.image) (sym kept) head.1 in
    let f = c.in-Ok-read_areas in
    let r = reading_of f.area f.contents in
    subst (λ (d : Disk). ReadsAt header d.image r f.area.start f.area.other f.area.offset f.contents.gate_at) kept
    (area_found header _ f.area r f.contents.gate_at here f.ensures.used refl f.ensures.begins f.ensures.frames f.ensures.within)

pub returns-in-Err-clause-device : goal.returns-in-Err-clause-device
returns-in-Err-clause-device g c =
    refused g.D.Device _ c.args.device.now c.read_header.new.device c.read_header.result c.in-Err.refusal _ _ c.in-Err.is (λ header. inr (record { cause = inl header })) c.read_header.ensures.device

pub returns-in-Err-read_areas-clause-device : goal.returns-in-Err-read_areas-clause-device
returns-in-Err-read_areas-clause-device g c =
    let D = g.D.Device in
    let image = (D.disk c.args.device.now).image in
    let header = c.in-Ok.ensures.header in
    let read = then_reads D c.args.device.now c.read_header.new.device c.read_areas.new.device c.read_header.result _ c.read_areas.result _ _ (IsNoJournal c.args.node c.args.n image) c.in-Ok.is
    (λ e. ⊎_elim (λ memory. inl (c.in-Ok.capacity, header, memory))
    (λ unread. inr (record { cause = inr (c.in-Ok.capacity, header, subst (λ (d : Disk). AreAreasUnread c.args.n c.in-Ok.capacity d.image e) c.read_header.ensures.device.kept unread) })))
    c.read_header.ensures.device c.read_areas.ensures.device in
    refused D _ c.args.device.now c.read_areas.new.device c.read_areas.result c.in-Err-read_areas.refusal _ _ c.in-Err-read_areas.is (λ cause. cause) read
