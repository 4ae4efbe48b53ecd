use Rattle.ring_records.proofs.Prefixes.{prefix_self}
use Rattle.decision_board.proofs.Steps.{steps}
use Rattle.decision_board.proofs.reader.find_next.Goals as goal

pub enter_as-requires : goal.enter_as-requires
enter_as-requires g c x = steps g.J.Naming.history _ _ x x (λ h. h) (prefix_self x.front.mark.notices)
