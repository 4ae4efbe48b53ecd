use Rattle.std.proofs.Common.{sym, ap, ◌∙◌, is_some, subst}
use Rattle.std.specs.FinMap as map
use Rattle.decision_board.specs.Leaders.{HasTerm, HaveTerms}
use Rattle.decision_board.proofs.Maps.{get_is, put_known, put_new, inserted, terms_kept}
use Rattle.decision_board.proofs.leaders.Leaders.put.Goals as goal

pub returns-then-contains_key-clause-ok : goal.returns-then-contains_key-clause-ok
returns-then-contains_key-clause-ok c =
    let m = c.self.inside.by_key in
    put_known c.args.self.now c.args.key c.args.leader
    (ap (λ l. map.contains_key l c.args.key) (sym c.self.view_is) ∙ (ap is_some (sym (get_is m c.args.key)) ∙ (sym c.contains_key.ensures ∙ c.if-contains_key.true)))

pub invariant_of-self-2 : goal.invariant_of-self-2
invariant_of-self-2 c =
    let has : HasTerm c.args.key = rw (← c.number-number.ensures.value) c.number-number.ensures.range in
    subst HaveTerms (sym (inserted c.self.inside.by_key.entries c.insert.new.self.entries c.args.key c.args.leader c.in_ok-insert.ensures.updates.0))
    (terms_kept (map.from_entries c.self.inside.by_key.entries) c.args.key c.args.leader c.self.invariant has)

pub returns-clause-ok : goal.returns-clause-ok
returns-clause-ok c =
    let m = c.self.inside.by_key in
    put_new c.args.self.now (map.from_entries c.insert.new.self.entries) c.args.key c.args.leader
    (ap (λ l. map.contains_key l c.args.key) (sym c.self.view_is) ∙ (ap is_some (sym (get_is m c.args.key)) ∙ (sym c.contains_key.ensures ∙ c.if-contains_key.false)))
    (inserted m.entries c.insert.new.self.entries c.args.key c.args.leader c.in_ok-insert.ensures.updates.0 ∙ ap (λ l. map.insert l c.args.key c.args.leader) c.self.view_is)
