use Rattle.ring_world.proofs.Corollaries.{committed_legal, committed_parts}
use Rattle.ring_world.proofs.laws.capacity.ring_legality.Goals as goal

pub returns-clause-legal : goal.returns-clause-legal
returns-clause-legal c = committed_legal

pub returns-clause-parts : goal.returns-clause-parts
returns-clause-parts c = committed_parts
