use Rattle.decision_board.proofs.Maps.{no_terms}
use Rattle.decision_board.proofs.leaders.Leaders.new.Goals as goal

pub invariant_of-result : goal.invariant_of-result
invariant_of-result c = no_terms c.new.result.entries c.new.ensures.empty
