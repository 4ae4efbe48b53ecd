use Rattle.ring_records.proofs.Prefixes.{prefix_trans}
use Rattle.decision_board.proofs.reader.BoardReader.next_group.Goals as goal

pub returns-else-not-covers-clause-begins : goal.returns-else-not-covers-clause-begins
returns-else-not-covers-clause-begins g c = rw (← c.self.view_is)
    (prefix_trans c.self.inside.seen.mark.notices c.self.inside.place.place.me.0.client c.in-Some.front.mark.notices c.self.invariant.2 c.in-Some.ensures.3, c.if-not-covers.ensures)
