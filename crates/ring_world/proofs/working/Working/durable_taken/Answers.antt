use Rattle.std.proofs.Common.{◌∙◌}
use Rattle.ring_node.proofs.Shown.{knows_durable}
use Rattle.ring_world.proofs.working.Working.durable_taken.Goals as goal

pub returns : goal.returns
returns c = let known = knows_durable _ _ _ c.desk.result.now c.desk.ensures.shows c.durable_taken.ensures.known in c.durable_taken.ensures.value ∙ (λ i. (known i).taken)
