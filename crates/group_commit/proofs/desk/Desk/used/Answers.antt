use Rattle.std.proofs.Common.{ap, ◌∙◌}
use Rattle.ring_records.specs.Admission.{used}
use Rattle.ring_records.specs.States.{launched_base}
use Rattle.node_core.specs.Core.{CoreView}
use Rattle.group_commit.specs.Desk.{DeskKept}
use Rattle.group_commit.proofs.desk.Desk.used.Goals as goal

pub returns : goal.returns
returns c = c.used.ensures ∙ (ap (λ (v : CoreView). v.room.taken) c.self.invariant.knows ∙ ap (λ (v : DeskKept). used (launched_base v.view.state) v.view.state.inputs) c.self.view_is)
