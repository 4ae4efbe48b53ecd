use Rattle.history_laws.proofs.Beginnings.{longer, shorter}
use Rattle.history_laws.proofs.answers_of_beginnings.Goals as goal

pub returns-clause-longer : goal.returns-clause-longer
returns-clause-longer c = λ me n rule h more q a s. longer me n rule h q a s more

pub returns-clause-shorter : goal.returns-clause-shorter
returns-clause-shorter c = λ me n k rule h q a s enough. shorter me n rule h q a s k enough
