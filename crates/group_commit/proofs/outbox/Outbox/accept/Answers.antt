use Rattle.std.proofs.Common.{rules, refl}
use Rattle.group_commit.proofs.Settling.{ends_with}
use Rattle.group_commit.proofs.outbox.Outbox.accept.Goals as goal

pub returns-in-Ok-clause-waits : goal.returns-in-Ok-clause-waits
returns-in-Ok-clause-waits c = record { released = refl; waiting = ends_with _ _ c.in-Ok.effects _ (search rules) c.in-Ok.ensures.brings; landing = refl }
