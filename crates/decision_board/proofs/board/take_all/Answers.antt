use Rattle.std.proofs.Common.{◌≡◌, ◌+◌, ◌++◌, [], ◌∷◌, List, sym, ap, ◌∙◌, take}
use Rattle.std.proofs.lemmas.List.{take_more}
use Rattle.ring_records.specs.declared.notice.Notice.{Notice}
use Rattle.decision_board.specs.declared.store.Entry.{Entry}
use Rattle.decision_board.specs.Stores.{after}
use Rattle.decision_board.proofs.Boards.{posted_once}
use Rattle.decision_board.proofs.board.take_all.Goals as goal

pub loop-notice-preserved : goal.loop-notice-preserved
loop-notice-preserved g c =
    let i = c.loop-notice.invariant in
    let n = c.in-Some.ensures in
    let item = c.notice-item.result in
    let e : Entry = record { notice = item; front = c.in-Some.front } in
    let first = c.in_ok-take_in.ensures.ok in
    let second = c.in_ok-take_in-2.ensures.ok in
    let long : e.front.mark.notices ≡ c.loop-notice.first.front.mark.notices ++ item ∷ [] = n.3 ∙ (n.1 ∙ ap (λ (w : List Notice). w ++ item ∷ []) (i.1 ∙ sym i.3)) in
    let posted = posted_once g.J.Naming.history c.loop-notice.first c.take_in.new.self e i.2 (n.2 ∙ i.0) long first in
    let grown : take (c.loop-notice.notice-index + 1) c.args.notices.now ≡ take c.loop-notice.notice-index c.args.notices.now ++ item ∷ [] =
    take_more c.args.notices.now c.loop-notice.notice-index item c.loop-notice-test.true
    ∙ ap (λ (d : Notice). take c.loop-notice.notice-index c.args.notices.now ++ d ∷ []) (sym c.notice-item.is) in
    let all : c.add.new.self.right.notices ≡ take (c.loop-notice.notice-index + 1) c.args.notices.now = n.1 ∙ (ap (λ (w : List Notice). w ++ item ∷ []) i.1 ∙ sym grown) in
    (n.0 ∙ i.0, all, posted, ap (λ s. s.2.mark.notices) first ∙ (n.3 ∙ all), second ∙ (ap (λ s. after s e) i.4 ∙ sym first))
