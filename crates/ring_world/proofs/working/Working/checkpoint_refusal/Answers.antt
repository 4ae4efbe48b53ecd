use Rattle.std.proofs.Common.{◌∙◌}
use Rattle.ring_node.specs.Refusals.{checkpoint_refusal}
use Rattle.ring_world.proofs.working.Working.checkpoint_refusal.Goals as goal

pub returns-clause-value : goal.returns-clause-value
returns-clause-value c = c.checkpoint_refusal.ensures.value ∙ λ t. checkpoint_refusal (c.at.ensures.member t) (c.at.ensures.state t)
