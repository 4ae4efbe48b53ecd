use Rattle.std.proofs.Common.{refl, ap, arith}
use Rattle.ring_records.specs.declared.refusal.Refusal.TheVariants as refused
use Rattle.gated_journal.proofs.Told.{done_read, snapshot_damaged, frames_damaged, now_damaged}
use Rattle.gated_journal.proofs.parts.end.Goals as goal

pub returns-in-Ok-clause-reads : goal.returns-in-Ok-clause-reads
returns-in-Ok-clause-reads c = λ layout rest bytes r. (refl, done_read layout c.args.found rest bytes r c.in-Done.is c.in-Ok.base c.in-Ok.ensures.found)

pub returns-in-Snapshot-clause-broken : goal.returns-in-Snapshot-clause-broken
returns-in-Snapshot-clause-broken c = λ layout rest bytes r. (0, (ap refused.Damaged (omega arith), snapshot_damaged layout c.args.found rest bytes r c.in-Snapshot.field-0 c.in-Snapshot.is))

pub returns-in-Frames-clause-broken : goal.returns-in-Frames-clause-broken
returns-in-Frames-clause-broken c = λ layout rest bytes r. (c.args.found.at, (refl, frames_damaged layout c.args.found rest bytes r c.in-Frames.is))

pub returns-in-Damaged-clause-broken : goal.returns-in-Damaged-clause-broken
returns-in-Damaged-clause-broken c = λ layout rest bytes r. (c.in-Damaged.at, (refl, now_damaged layout c.args.found rest bytes r c.in-Damaged.at c.in-Damaged.is))
