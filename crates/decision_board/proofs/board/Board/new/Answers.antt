use Rattle.std.proofs.Common.{◌++◌, sym, ap, ◌∙◌, subst}
use Rattle.decision_board.specs.Posts.{IsPosted}
use Rattle.decision_board.proofs.Boards.{posted_none, running_none, taken}
use Rattle.decision_board.proofs.board.Board.new.Goals as goal

pub take_all-requires-clause-posted : goal.take_all-requires-clause-posted
take_all-requires-clause-posted g c =
    let o = c.into_parts-whole.ensures in
    let front = c.new-first.ensures.front ∙ c.again.ensures in
    let none = ap (λ f. f.mark.notices) front ∙ o.empty in
    let posted = posted_none g.J.Naming.history c.new-first.result c.new-first.ensures.leaders c.new-first.ensures.floors none (ap (λ f. f.mark.history) front ∙ (o.name ∙ c.requires.history)) in
    (posted, none)

pub invariant_of-result : goal.invariant_of-result
invariant_of-result g c =
    let o = c.into_parts-whole.ensures in
    let w = taken c.take_all.result c.if-is_err.ensures.value c.take_all.ensures.whole in
    let p = taken c.take_all.result c.if-is_err.ensures.value c.take_all.ensures.posted in
    let store = c.in-Ok.ensures.0 in
    let x = c.in-Ok.writer.desk.shown.value in
    let posted : IsPosted g.J.Naming.history x = subst (IsPosted g.J.Naming.history) (sym store) p.0 in
    let all = w.1 ∙ (sym p.1 ∙ ap (λ s. s.front.mark.notices) (sym store)) in
    let none = ap (λ w. w ++ c.new-in-Ok.result.items) c.in-Ok.ensures.1 ∙ c.new-in-Ok.ensures.items in
    let run = running_none g.J.Naming.history x c.take_all.new.whole.right.notices _ posted all none in
    (w.0, o.name ∙ c.requires.history, o.empty, run.0, run.1, run.2)
