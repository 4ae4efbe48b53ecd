use Rattle.std.proofs.Common.{sym, ap, subst}
use Rattle.ring_records.specs.declared.input.Input.{Input}
use Rattle.ring_records.specs.Known.{Objects}
use Rattle.node_core.specs.FreeCore.{FreeView}
use Rattle.node_core.specs.Kept.{known_with}
use Rattle.node_core.proofs.Objections.{take_objects, acked_objects, seen}
use Rattle.node_core.proofs.free.FreeCore.objection.Goals as goal

pub returns-in-Take : goal.returns-in-Take
returns-in-Take c =
    seen c.self.inside.size (known_with c.self.inside.inputs c.self.inside.table c.self.inside.outlink.link c.self.inside.inlink) c.args.input.now _ c.against_take.result c.args.self.now
    (ap (λ (v : FreeView). v.size) c.self.view_is) (ap (λ (v : FreeView). v.known) c.self.view_is) (sym c.in-Take.is)
    (take_objects c.self.inside.inputs c.self.inside.inlink c.self.inside.size c.self.inside.table c.self.inside.outlink.link c.in-Take.no c.in-Take.msg c.against_take.result c.against_take.ensures)

pub returns-in-Acked : goal.returns-in-Acked
returns-in-Acked c =
    seen c.self.inside.size (known_with c.self.inside.inputs c.self.inside.table c.self.inside.outlink.link c.self.inside.inlink) c.args.input.now _ c.against_acked.result c.args.self.now
    (ap (λ (v : FreeView). v.size) c.self.view_is) (ap (λ (v : FreeView). v.known) c.self.view_is) (sym c.in-Acked.is)
    (acked_objects c.self.inside.inputs c.self.inside.inlink c.self.inside.size c.self.inside.table c.self.inside.outlink.link c.in-Acked.upto c.against_acked.result c.against_acked.ensures)

pub returns-in-Retire : goal.returns-in-Retire
returns-in-Retire c = subst (λ (x : Input). Objects c.args.self.now.size c.args.self.now.known x c.retire_objection.result) (sym c.in-Retire.is) (c.retire_objection.ensures c.args.self.now.size)
