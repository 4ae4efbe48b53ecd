use Rattle.ring_world.proofs.Promises.{prefix_kept}
use Rattle.ring_world.proofs.laws.prefix.Goals as goal

pub returns : goal.returns
returns c = record { kept = prefix_kept }
