use Rattle.std.proofs.Common.{◌≤◌, ap, subst}
use Rattle.ring_records.specs.declared.input.Input.TheVariants.{Retire}
use Rattle.ring_records.specs.declared.summary.Summary.{Summary}
use Rattle.ring_records.specs.Known.{Objects}
use Rattle.node_core.specs.FreeCore.{FreeView}
use Rattle.node_core.proofs.Objections.{retire_objects}
use Rattle.node_core.proofs.free.FreeCore.retire_objection.Goals as goal

pub returns : goal.returns
returns c = λ n.
    let some : 1 ≤ c.args.floor = rw (← c.number-number.ensures.value) c.number-number.ensures.range.0 in
    subst (λ (s : Summary). Objects n s (Retire c.args.group.now c.args.floor) c.against_retire.result) (ap (λ (v : FreeView). v.known) c.self.view_is)
    (retire_objects c.self.inside.inputs c.self.inside.inlink n c.self.inside.table c.self.inside.outlink.link c.args.group.now c.args.floor c.floor.result c.latest.result c.against_retire.result some c.floor.ensures c.latest.ensures c.against_retire.ensures)
