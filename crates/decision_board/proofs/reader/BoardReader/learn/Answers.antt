use Rattle.std.proofs.Common.{◌⊎◌, List, subst}
use mathlib.Core.List.{IsPrefix}
use Rattle.ring_records.specs.declared.notice.Notice.{Notice}
use Rattle.decision_board.proofs.reader.BoardReader.learn.Goals as goal

pub returns-else-covers-clause-one_history : goal.returns-else-covers-clause-one_history
returns-else-covers-clause-one_history g c = rw (← c.self.view_is)
    (subst (λ (l : List Notice). IsPrefix c.self.inside.seen.mark.notices l ⊎ IsPrefix l c.self.inside.seen.mark.notices) c.into_front-front.ensures.notices c.one_history.ensures)
