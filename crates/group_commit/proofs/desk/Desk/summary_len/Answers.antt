use Rattle.std.proofs.Common.{ap, ◌∙◌}
use Rattle.ring_records.specs.Admission.{newest, snapshot_len}
use Rattle.node_core.specs.Core.{CoreView}
use Rattle.group_commit.specs.Desk.{DeskKept, known_all}
use Rattle.group_commit.proofs.desk.Desk.summary_len.Goals as goal

pub returns : goal.returns
returns c = c.summary_len.ensures ∙ (ap (λ (v : CoreView). snapshot_len newest v.known) c.self.invariant.knows ∙ ap (λ (v : DeskKept). snapshot_len newest (known_all v)) c.self.view_is)
