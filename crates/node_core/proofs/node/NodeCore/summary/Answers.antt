use Rattle.std.proofs.Common.{subst}
use Rattle.std.specs.Prelude.{OnOk}
use Rattle.ring_records.specs.Snapshot.{IsSound}
use Rattle.node_core.specs.Core.{CoreView, IsNodeOf}
use Rattle.node_core.proofs.node.NodeCore.summary.Goals as goal

pub returns-clause-sound : goal.returns-clause-sound
returns-clause-sound c = subst (λ (v : CoreView). OnOk c.summary.result (IsNodeOf v.size v.me → IsSound v.size v.known)) c.self.view_is c.summary.ensures.sound
