use Rattle.std.proofs.Common.{subst}
use Rattle.ring_records.specs.Known.{leads_in}
use Rattle.ring_records.specs.Latest.{IsLatest}
use Rattle.node_core.specs.Core.{CoreView}
use Rattle.node_core.proofs.node.NodeCore.latest.Goals as goal

pub returns : goal.returns
returns c = subst (λ (v : CoreView). IsLatest (leads_in v.known c.args.group.now) c.latest.result) c.self.view_is c.latest.ensures
