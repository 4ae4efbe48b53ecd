use Rattle.ring_world.proofs.Corollaries.{prefix_kept}
use Rattle.ring_world.proofs.laws.capacity.prefix.Goals as goal

pub returns : goal.returns
returns c = record { kept = prefix_kept }
