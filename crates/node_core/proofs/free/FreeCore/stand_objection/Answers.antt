use Rattle.std.proofs.Common.{ap, subst}
use Rattle.ring_records.specs.declared.input.Input.TheVariants.{Stand}
use Rattle.ring_records.specs.declared.summary.Summary.{Summary}
use Rattle.ring_records.specs.Known.{Objects}
use Rattle.node_core.specs.FreeCore.{FreeView}
use Rattle.node_core.proofs.Objections.{stand_objects}
use Rattle.node_core.proofs.free.FreeCore.stand_objection.Goals as goal

pub returns : goal.returns
returns c = λ n bid.
    subst (λ (s : Summary). Objects n s (Stand c.args.key.now bid) c.against_stand.result) (ap (λ (v : FreeView). v.known) c.self.view_is)
    (stand_objects c.self.inside.inputs c.self.inside.inlink n c.self.inside.table c.self.inside.outlink.link c.args.key.now bid c.floor.result c.ballot.result c.latest.result c.stands.result c.against_stand.result c.floor.ensures c.ballot.ensures c.latest.ensures c.stands.ensures c.against_stand.ensures)
