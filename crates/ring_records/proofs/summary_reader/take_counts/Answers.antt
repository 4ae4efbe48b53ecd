use Rattle.std.proofs.Common.{arith}
use Rattle.ring_records.proofs.SnapshotParts.{takes_counts, unfit_counts, no_counts_at}
use Rattle.ring_records.proofs.summary_reader.take_counts.Goals as goal

pub returns-then-counts : goal.returns-then-counts
returns-then-counts c = unfit_counts c.args.layout c.args.bytes.now c.in-Ok.field-0-1.now c.in-Ok.counts c.in-Ok.ensures (omega (arith, c.if-counts.true))

pub returns-else-counts : goal.returns-else-counts
returns-else-counts c = takes_counts c.args.layout c.args.bytes.now c.in-Ok.field-0-1.now c.in-Ok.counts (omega (arith, c.if-layout-lt-OLDEST_AREA.false)) (λ i. omega (arith, c.type_inv.bytes i)) c.in-Ok.ensures (omega (arith, c.if-counts.false))

pub returns-in-Err : goal.returns-in-Err
returns-in-Err c = no_counts_at c.args.layout c.args.bytes.now c.in-Err.field-0 c.in-Err.ensures
