use Rattle.std.proofs.Common.{sym, ◌∙◌}
use Rattle.gated_journal.proofs.Head.{marked_by}
use Rattle.gated_journal.proofs.open.header_of.Goals as goal

pub returns-in-Ok-clause-marked : goal.returns-in-Ok-clause-marked
returns-in-Ok-clause-marked c = marked_by c.args.node c.args.n c.in-Ok.capacity c.args.head.now c.is_old.result (sym c.capacity_of.ensures ∙ c.in-Ok.is) c.is_old.ensures
