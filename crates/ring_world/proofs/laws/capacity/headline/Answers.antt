use Rattle.ring_world.proofs.Corollaries.{one_leader, leader_stands, leader_greatest}
use Rattle.ring_world.proofs.laws.capacity.headline.Goals as goal

pub returns-clause-same : goal.returns-clause-same
returns-clause-same c = one_leader

pub returns-clause-stands : goal.returns-clause-stands
returns-clause-stands c = leader_stands

pub returns-clause-greatest : goal.returns-clause-greatest
returns-clause-greatest c = leader_greatest
