use Rattle.std.proofs.Common.{ap, ◌∙◌, subst}
use Rattle.group_commit.specs.Desk.{DeskKept, known_durable}
use Rattle.group_commit.specs.Since.{IsKnownDesk}
use Rattle.group_commit.proofs.desk.Desk.durable_taken.Goals as goal

pub returns-clause-value : goal.returns-clause-value
returns-clause-value c = c.self.invariant.holds.released.taken ∙ ap (λ (v : DeskKept). (known_durable v).taken) c.self.view_is

pub returns-clause-known : goal.returns-clause-known
returns-clause-known c = subst IsKnownDesk c.self.view_is c.self.invariant.state
