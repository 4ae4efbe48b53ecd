use Rattle.std.proofs.Common.{◌≡◌, ◌∙◌, ap}
use Rattle.ring_records.specs.Admission.{newest}
use Rattle.ring_records.specs.Member.{member}
use Rattle.ring_records.specs.Summary.{empty}
use Rattle.ring_records.proofs.Sound.{sound-empty}
use Rattle.gated_journal.specs.Areas.{AllReadAs}
use Rattle.gated_journal.specs.Journal as journals
use Rattle.gated_journal.specs.Reading.{Reading, fresh_area}
use Rattle.group_commit.specs.Desk.{new_desk}
use Rattle.node_store.proofs.Standing.{opens_empty}
use Rattle.node_store.proofs.node.Node.create.Goals as goal

pub open-requires : goal.open-requires
open-requires g c = rw (ap (λ (r : Reading). r.base) c.fresh.ensures) (sound-empty c.args.n)

pub invariant_of-result : goal.invariant_of-result
invariant_of-result g c =
    let desk = c.in-Ok.desk in
    let journal = c.in-Ok-format.journal in
    let disk = g.D.Device.disk (journals.device_of journal) in
    let here = member c.args.node c.args.n c.args.capacity in
    let made = c.in-Ok-format.ensures in
    let all : AllReadAs (journals.member_of journal) disk (fresh_area newest 1 empty) = rw made.header made.empty in
    let is : desk ≡ new_desk here c.args.run (fresh_area newest 1 empty) = c.in-Ok.ensures.desk ∙ ap (new_desk here c.args.run) c.fresh.ensures in
    record { stands = rw is (opens_empty here journal c.args.run c.inside.ensures made.header all made.ready made.len made.room made.layout made.epoch) }
