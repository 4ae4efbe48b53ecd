use Rattle.ring_records.proofs.Prefixes.{covered}
use Rattle.decision_board.proofs.history.Front.covers.Goals as goal

pub returns : goal.returns
returns c =
    let both = c.compare.ensures in
    rw (c.args.self.now.counted, c.args.other.now.counted) (covered c.args.other.now.mark.notices c.args.self.now.mark.notices both.0 both.2 both.1)
