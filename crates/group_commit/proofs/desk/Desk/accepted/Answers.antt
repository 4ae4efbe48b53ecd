use Rattle.std.proofs.Common.{subst}
use Rattle.group_commit.specs.Since.{IsKnownDesk}
use Rattle.group_commit.proofs.desk.Desk.accepted.Goals as goal

pub returns-clause-known : goal.returns-clause-known
returns-clause-known c = subst IsKnownDesk c.self.view_is c.self.invariant.state
