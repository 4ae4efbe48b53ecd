use Rattle.history_laws.proofs.Runs.{runs, runs_handed}
use Rattle.history_laws.proofs.runs_are_linked.Goals as goal

pub returns-clause-linked : goal.returns-clause-linked
returns-clause-linked c = runs

pub returns-clause-handed : goal.returns-clause-handed
returns-clause-handed c = runs_handed
