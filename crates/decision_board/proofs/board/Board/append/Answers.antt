use Rattle.std.proofs.Common.{◌≡◌, ◌++◌, [], ◌∷◌, List, sym, ap, ◌∙◌, subst, drop, append_assoc}
use Rattle.ring_records.specs.declared.notice.Notice.{Notice}
use Rattle.decision_board.specs.declared.store.Entry.{Entry}
use Rattle.decision_board.proofs.Boards.{running_push, IsRunning}
use Rattle.decision_board.proofs.board.Board.append.Goals as goal

pub invariant_of-self-in-Some : goal.invariant_of-self-in-Some
invariant_of-self-in-Some g c =
    let i = c.self.invariant in
    let n = c.in-Some.ensures in
    let e : Entry = record { notice = c.args.notice; front = c.in-Some.front } in
    let x = c.self.inside.writer.desk.shown.value in
    let behind : List Entry = drop c.self.inside.writer.behind c.self.inside.writer.log.items in
    let all : List Notice = c.self.inside.whole.right.notices in
    let entries : (behind ++ c.self.inside.waiting.items) ++ e ∷ [] ≡ behind ++ c.push_back_reserved.new.self.items =
    append_assoc behind c.self.inside.waiting.items (e ∷ [])
    ∙ ap (λ (w : List Entry). behind ++ w) (ap (λ (w : List Entry). w ++ e ∷ []) (sym c.reserve.ensures.items) ∙ sym c.push_back_reserved.ensures.items) in
    let run = running_push g.J.Naming.history x all (behind ++ c.self.inside.waiting.items) e (i.3, i.4, i.5) (n.2 ∙ i.0) (n.3 ∙ n.1) in
    let now : IsRunning g.J.Naming.history x c.add.new.self.right.notices (behind ++ c.push_back_reserved.new.self.items) =
    subst (IsRunning g.J.Naming.history x c.add.new.self.right.notices) entries
    (subst (λ (l : List Notice). IsRunning g.J.Naming.history x l ((behind ++ c.self.inside.waiting.items) ++ e ∷ [])) (sym n.1) run) in
    (n.0 ∙ i.0, i.1, i.2, now.0, now.1, now.2)
