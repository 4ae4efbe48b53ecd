use Rattle.std.proofs.Common.{sym}
use Rattle.decision_board.proofs.Boards.{posted_after, shown_values}
use Rattle.decision_board.proofs.Steps.{steps}
use Rattle.decision_board.proofs.board.show.Goals as goal

pub publish_as-requires : goal.publish_as-requires
publish_as-requires g c next is =
    let w = c.args.writer in
    let done = posted_after g.J.Naming.history w.desk.shown.value next _ c.requires.posted c.requires.goes_on is in
    steps g.J.Naming.history _ _ w.desk.shown.value next (λ h. done.0) (_, sym done.1)

pub returns-clause-values : goal.returns-clause-values
returns-clause-values g c =
    let w = c.args.writer in
    shown_values g.J.Naming.history w.desk.shown.value c.publish_as.result.0.desk.shown.value _ _ c.requires.posted c.requires.goes_on c.publish_as.result.1 c.publish_as.ensures.values
