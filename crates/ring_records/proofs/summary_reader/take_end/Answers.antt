use Rattle.std.proofs.Common.{arith}
use Rattle.ring_records.proofs.SnapshotParts.{takes_end, no_end_at}
use Rattle.ring_records.proofs.summary_reader.take_end.Goals as goal

pub returns-in-Ok-clause-end : goal.returns-in-Ok-clause-end
returns-in-Ok-clause-end c = takes_end c.args.bytes.now c.in-Ok.field-0-1.now c.in-Ok.number (λ i. omega (arith, c.type_inv.bytes i)) c.in-Ok.ensures

pub returns-in-Err-clause-end : goal.returns-in-Err-clause-end
returns-in-Err-clause-end c = no_end_at c.args.bytes.now c.in-Err.field-0 c.in-Err.ensures
