use Rattle.std.proofs.Common.{sym, subst}
use Rattle.disk_model.specs.FileDevice.{disk_of}
use Rattle.ring_records.specs.Admission.{newest}
use Rattle.gated_journal.specs.Areas.{AllReadAs}
use Rattle.gated_journal.specs.Reading.{fresh_area}
use Rattle.group_commit.specs.Desk.{DeskKept, known_all}
use Rattle.node_store.specs.Node.{desk_of, member_of, device_of}
use Rattle.ring_start.proofs.node_file.format.Goals as goal

pub returns-in-Ok-clause-holds : goal.returns-in-Ok-clause-holds
returns-in-Ok-clause-holds c =
    subst (λ node. AllReadAs (member_of node) (disk_of (device_of node)) (fresh_area newest 1 (known_all (desk_of node)))) (sym c.new.ensures)
    (subst (λ (desk : DeskKept). AllReadAs desk.view.member (disk_of (device_of c.in-Ok.made)) (fresh_area newest 1 (known_all desk))) (sym c.in-Ok.ensures.desk) c.in-Ok.ensures.empty)
