use Rattle.std.proofs.Common.{sym, subst, List}
use mathlib.Core.List.{IsPrefix}
use Rattle.ring_records.specs.declared.notice.Notice.{Notice}
use Rattle.ring_records.specs.Notices.{leads_in}
use Rattle.ring_records.specs.Latest.{IsLatest}
use Rattle.ring_records.proofs.Notices.{latest_in-kept}
use Rattle.ring_records.proofs.Prefixes.{prefix_trans}
use Rattle.decision_board.proofs.reader.BoardReader.latest.Goals as goal

pub returns-else-not-covers-clause-begins : goal.returns-else-not-covers-clause-begins
returns-else-not-covers-clause-begins g c = rw (← c.self.view_is)
    (prefix_trans c.self.inside.seen.mark.notices c.self.inside.place.place.me.0.client c.in-Some.front.mark.notices c.self.invariant.2 c.in-Some.ensures.3, c.if-not-covers.ensures)

pub returns-else-not-covers-clause-never_down : goal.returns-else-not-covers-clause-never_down
returns-else-not-covers-clause-never_down g c before e =
    let on : IsPrefix c.self.inside.seen.mark.notices c.in-Some.front.mark.notices =
    prefix_trans c.self.inside.seen.mark.notices c.self.inside.place.place.me.0.client c.in-Some.front.mark.notices c.self.invariant.2 c.in-Some.ensures.3 in
    let old : IsLatest (leads_in c.self.inside.seen.mark.notices c.args.group.now) before =
    subst (λ (s : List Notice × List Notice). IsLatest (leads_in s.0 c.args.group.now) before) (sym c.self.view_is) e in
    latest_in-kept c.self.inside.seen.mark.notices c.in-Some.front.mark.notices on c.args.group.now before c.in-Some.latest old c.in-Some.ensures.0
