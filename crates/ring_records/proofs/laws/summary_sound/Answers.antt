use Rattle.ring_records.proofs.Sound.{sound-empty, sound-stepped, summary-none, sound-history}
use Rattle.ring_records.proofs.laws.summary_sound.Goals as goal

pub returns-clause-none : goal.returns-clause-none
returns-clause-none c = summary-none

pub returns-clause-empty : goal.returns-clause-empty
returns-clause-empty c = sound-empty

pub returns-clause-steps : goal.returns-clause-steps
returns-clause-steps c = sound-stepped

pub returns-clause-history : goal.returns-clause-history
returns-clause-history c = sound-history
