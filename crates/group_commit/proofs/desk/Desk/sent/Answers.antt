use Rattle.std.proofs.Common.{ap, ◌∙◌, subst}
use Rattle.node_core.specs.Core.{CoreView}
use Rattle.group_commit.specs.Desk.{DeskKept, known_all}
use Rattle.group_commit.specs.Since.{IsKnownDesk}
use Rattle.group_commit.proofs.desk.Desk.sent.Goals as goal

pub returns-clause-value : goal.returns-clause-value
returns-clause-value c = c.sent.ensures ∙ (ap (λ (v : CoreView). v.known.sent) c.self.invariant.knows ∙ ap (λ (v : DeskKept). (known_all v).sent) c.self.view_is)

pub returns-clause-known : goal.returns-clause-known
returns-clause-known c = subst IsKnownDesk c.self.view_is c.self.invariant.state
