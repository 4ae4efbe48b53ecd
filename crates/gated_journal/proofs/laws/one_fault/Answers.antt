use Rattle.gated_journal.proofs.Fault.{not_read, one_fault}
use Rattle.gated_journal.proofs.Unique.{not_both, damaged_once}
use Rattle.gated_journal.proofs.laws.one_fault.Goals as goal

pub returns-clause-read : goal.returns-clause-read
returns-clause-read c = not_read

pub returns-clause-fault : goal.returns-clause-fault
returns-clause-fault c = one_fault

pub returns-clause-frames : goal.returns-clause-frames
returns-clause-frames c = λ layout. not_both {layout = layout}

pub returns-clause-gate_at : goal.returns-clause-gate_at
returns-clause-gate_at c = λ layout. damaged_once {layout = layout}
