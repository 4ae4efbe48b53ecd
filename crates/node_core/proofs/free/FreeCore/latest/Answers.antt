use Rattle.std.proofs.Common.{subst}
use Rattle.ring_records.specs.Known.{leads_in}
use Rattle.ring_records.specs.Latest.{IsLatest}
use Rattle.node_core.specs.FreeCore.{FreeView}
use Rattle.node_core.proofs.Objections.{latest_in}
use Rattle.node_core.proofs.free.FreeCore.latest.Goals as goal

pub returns : goal.returns
returns c =
    subst (λ (v : FreeView). IsLatest (leads_in v.known c.args.group.now) c.latest.result) c.self.view_is
    (latest_in c.self.inside.inputs c.self.inside.inlink c.self.inside.table c.self.inside.outlink.link c.args.group.now c.latest.result c.latest.ensures)
