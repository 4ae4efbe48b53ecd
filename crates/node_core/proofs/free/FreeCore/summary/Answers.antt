use Rattle.std.proofs.Common.{subst}
use Rattle.ring_records.specs.Snapshot.{IsSound}
use Rattle.node_core.specs.Core.{IsNodeOf}
use Rattle.node_core.specs.FreeCore.{FreeView}
use Rattle.node_core.proofs.free.FreeCore.summary.Goals as goal

pub returns-clause-sound : goal.returns-clause-sound
returns-clause-sound c = subst (λ (v : FreeView). IsNodeOf v.size v.me → IsSound v.size v.known) c.self.view_is c.self.invariant.sound
