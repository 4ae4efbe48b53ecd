use Rattle.std.proofs.Common.{subst}
use Rattle.gated_journal.specs.Found.{IsOpen}
use Rattle.gated_journal.proofs.Reader.{reader_closed}
use Rattle.gated_journal.proofs.parts.read_on.Goals as goal

pub returns-in-Done-clause-reads : goal.returns-in-Done-clause-reads
returns-in-Done-clause-reads c = λ bytes r. reader_closed c.args.layout c.args.found.now c.args.rest.now.items bytes c.args.piece.now (λ going. subst IsOpen c.in-Done.is going) r

pub returns-in-Damaged-clause-reads : goal.returns-in-Damaged-clause-reads
returns-in-Damaged-clause-reads c = λ bytes r. reader_closed c.args.layout c.args.found.now c.args.rest.now.items bytes c.args.piece.now (λ going. subst IsOpen c.in-Damaged.is going) r
