use Rattle.std.proofs.Common.{◌∙◌, ap, sym}
use Rattle.ring_post.proofs.Outcomes.{letter_in, outcome_with}
use Rattle.ring_post.proofs.outcome.outcome_of.Goals as goal

-- it carries a letter where of_stub gives one, and the same
pub returns-in-Some-clause-credit : goal.returns-in-Some-clause-credit
returns-in-Some-clause-credit c taken = (
  λ e. (c.of_stub.ensures taken).0 (c.in-Some.is ∙ ap letter_in e),
  λ r. ap outcome_with (sym c.in-Some.is ∙ (c.of_stub.ensures taken).1 r),
)

pub returns-in-None-clause-credit : goal.returns-in-None-clause-credit
returns-in-None-clause-credit c taken = (
  λ e. (c.of_stub.ensures taken).0 (c.in-None.is ∙ ap letter_in e),
  λ r. ap outcome_with (sym c.in-None.is ∙ (c.of_stub.ensures taken).1 r),
)
