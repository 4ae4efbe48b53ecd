use Rattle.ring_world.proofs.Rounds.{settles}
use Rattle.ring_world.proofs.laws.decided.Goals as goal

pub returns : goal.returns
returns c = settles
