use Rattle.std.proofs.Common.{ap, ◌∙◌}
use Rattle.node_core.specs.Core.{CoreView}
use Rattle.group_commit.specs.Desk.{DeskKept, known_all}
use Rattle.group_commit.proofs.desk.Desk.stands.Goals as goal

pub returns : goal.returns
returns c = c.stands.ensures ∙ (ap (λ (v : CoreView). v.known.stands) c.self.invariant.knows ∙ ap (λ (v : DeskKept). (known_all v).stands) c.self.view_is)
