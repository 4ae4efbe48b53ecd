use Rattle.std.proofs.Common.{◌∙◌}
use Rattle.ring_node.proofs.Shown.{knows_all}
use Rattle.ring_world.proofs.working.Working.taken.Goals as goal

pub returns : goal.returns
returns c = let known = knows_all _ _ _ c.desk.result.now c.desk.ensures.shows c.taken.ensures.known in c.taken.ensures.value ∙ (λ i. (known i).taken)
