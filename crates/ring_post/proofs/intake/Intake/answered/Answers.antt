use Rattle.ring_post.proofs.intake.Intake.answered.Goals as goal

pub returns-in-Some-Take-clause-credit : goal.returns-in-Some-Take-clause-credit
returns-in-Some-Take-clause-credit c taken message = c.answered_message.ensures.credit taken
