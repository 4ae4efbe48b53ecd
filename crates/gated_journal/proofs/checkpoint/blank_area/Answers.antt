use Rattle.std.proofs.Common.{arith}
use Rattle.gated_journal.proofs.FewFloors.{few_floors}
use Rattle.gated_journal.proofs.checkpoint.blank_area.Goals as goal

pub write_summary-requires-clause-floors : goal.write_summary-requires-clause-floors
write_summary-requires-clause-floors c = few_floors c.args.base.now c.requires.short

pub write_summary-requires-clause-none : goal.write_summary-requires-clause-none
write_summary-requires-clause-none c = λ old. absurd (omega (arith, old))
