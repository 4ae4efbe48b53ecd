use Rattle.std.proofs.Common.{◌≡◌, ◌++◌, [], List, sym, ap, ◌∙◌, subst, drop}
use Rattle.std.proofs.lemmas.List.{append-nil}
use Rattle.decision_board.specs.declared.store.Entry.{Entry}
use Rattle.decision_board.specs.declared.store.Store.{Store}
use Rattle.decision_board.proofs.Boards.{running_shown, IsRunning, taken}
use Rattle.decision_board.proofs.board.Board.publish.Goals as goal

pub invariant_of-self-in-Ok : goal.invariant_of-self-in-Ok
invariant_of-self-in-Ok g c =
    let i = c.self.invariant in
    let w = c.hand_over.new.writer in
    let t = c.replace_with.new.dest in
    let none : c.hand_over.new.waiting.items ≡ [] = taken c.hand_over.result c.if-is_err.ensures.value c.hand_over.ensures.empty in
    let es : List Entry = drop w.behind w.log.items in
    let order : drop c.self.inside.writer.behind c.self.inside.writer.log.items ++ c.self.inside.waiting.items ≡ es = sym c.hand_over.ensures.order ∙ (ap (λ v. es ++ v) none ∙ append-nil es) in
    let store : c.self.inside.writer.desk.shown.value ≡ w.desk.shown.value = ap (λ d. d.shown.value) (sym c.hand_over.ensures.shown) in
    let run : IsRunning g.J.Naming.history w.desk.shown.value c.self.inside.whole.right.notices es = subst (λ (x : Store). IsRunning g.J.Naming.history x c.self.inside.whole.right.notices es) store
    (subst (IsRunning g.J.Naming.history c.self.inside.writer.desk.shown.value c.self.inside.whole.right.notices) order (i.3, i.4, i.5)) in
    let rest : drop t.behind t.log.items ++ c.hand_over.new.waiting.items ≡ drop t.behind t.log.items = ap (λ v. drop t.behind t.log.items ++ v) none ∙ append-nil _ in
    let after = running_shown g.J.Naming.history w.desk.shown.value t.desk.shown.value c.self.inside.whole.right.notices es
    (drop t.behind t.log.items) run c.replace_with.ensures.0 c.replace_with.result c.replace_with.ensures.1 in
    let now : IsRunning g.J.Naming.history t.desk.shown.value c.self.inside.whole.right.notices (drop t.behind t.log.items ++ c.hand_over.new.waiting.items) =
    subst (IsRunning g.J.Naming.history t.desk.shown.value c.self.inside.whole.right.notices) (sym rest) after in
    (i.0, i.1, i.2, now.0, now.1, now.2)
