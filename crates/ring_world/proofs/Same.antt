-- States with the same nodes and ticket numbers.
use Rattle.std.proofs.Common.{◌∙◌}
use Rattle.ring_world.specs.State.{State}
use Rattle.ring_world.specs.Left.{IsSameState}

pub same_again : (s t u : State) → IsSameState s t → IsSameState t u → IsSameState s u
same_again s t u first then = ((then.0.0 ∙ first.0.0, then.0.1 ∙ first.0.1, then.0.2 ∙ first.0.2, then.0.3 ∙ first.0.3), then.1 ∙ first.1)
