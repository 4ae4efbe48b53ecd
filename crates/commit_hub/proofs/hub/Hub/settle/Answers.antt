use Rattle.std.proofs.Common.{sym, subst}
use Rattle.group_commit.specs.Since.{IsKnownDesk}
use Rattle.commit_hub.proofs.hub.Hub.settle.Goals as goal

pub returns-in-Ok-clause-known : goal.returns-in-Ok-clause-known
returns-in-Ok-clause-known g c = subst IsKnownDesk (sym c.in-Ok.ensures.desk) c.in-Ok.ensures.known
