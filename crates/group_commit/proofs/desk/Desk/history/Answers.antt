use Rattle.std.proofs.Common.{subst}
use Rattle.ring_records.specs.Lawful.{IsNodeState}
use Rattle.group_commit.specs.Desk.{DeskKept}
use Rattle.group_commit.specs.Since.{IsKnownDesk}
use Rattle.group_commit.proofs.desk.Desk.history.Goals as goal

pub returns-clause-known : goal.returns-clause-known
returns-clause-known c = subst IsKnownDesk c.self.view_is c.self.invariant.state

pub returns-clause-counts : goal.returns-clause-counts
returns-clause-counts c = subst (λ (v : DeskKept). IsNodeState v.view.state) c.self.view_is c.self.invariant.state.counts
