use Rattle.ring_records.proofs.Prefixes.{one_begins}
use Rattle.decision_board.proofs.history.Front.one_history.Goals as goal

pub returns : goal.returns
returns c =
    let both = c.compare.ensures in
    one_begins c.args.self.now.mark.notices c.args.other.now.mark.notices both.0 both.1 both.2
