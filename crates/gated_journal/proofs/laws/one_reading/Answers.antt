use Rattle.gated_journal.proofs.AreaAlone.{one_reading, one_header}
use Rattle.gated_journal.proofs.Unique.{unique}
use Rattle.gated_journal.proofs.laws.one_reading.Goals as goal

pub returns-clause-reading : goal.returns-clause-reading
returns-clause-reading c = one_reading

pub returns-clause-header : goal.returns-clause-header
returns-clause-header c = one_header

pub returns-clause-frames : goal.returns-clause-frames
returns-clause-frames c = λ layout. unique {layout = layout}
