use Rattle.ring_service.proofs.Restarted.{decision_stays, floor_stays, named_stays, never_down, says_all}
use Rattle.ring_service.proofs.laws.restarted_board.Goals as goal

pub returns-clause-says : goal.returns-clause-says
returns-clause-says c = says_all

pub returns-clause-decisions : goal.returns-clause-decisions
returns-clause-decisions c = decision_stays

pub returns-clause-floors : goal.returns-clause-floors
returns-clause-floors c = floor_stays

pub returns-clause-leader : goal.returns-clause-leader
returns-clause-leader c = named_stays

pub returns-clause-never_down : goal.returns-clause-never_down
returns-clause-never_down c = never_down
