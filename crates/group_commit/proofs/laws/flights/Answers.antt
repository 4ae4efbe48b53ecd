use Rattle.group_commit.proofs.Seen.{lawful_launched_all, past_first}
use Rattle.group_commit.proofs.laws.flights.Goals as goal

pub returns-clause-checkpoint : goal.returns-clause-checkpoint
returns-clause-checkpoint c = lawful_launched_all

pub returns-clause-first : goal.returns-clause-first
returns-clause-first c = past_first
