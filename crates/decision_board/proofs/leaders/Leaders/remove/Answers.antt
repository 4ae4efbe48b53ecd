use Rattle.std.proofs.Common.{ap, sym, subst, ◌∙◌}
use Rattle.std.specs.FinMap as map
use Rattle.ring_records.proofs.Compare.{keys_total, keys_exact}
use Rattle.decision_board.specs.Leaders.{HaveTerms}
use Rattle.decision_board.proofs.Maps.{remove_in, terms_fewer}
use Rattle.decision_board.proofs.leaders.Leaders.remove.Goals as goal

pub invariant_of-self : goal.invariant_of-self
invariant_of-self c =
    subst HaveTerms (sym (remove_in keys_total keys_exact c.self.inside.by_key c.remove.new.self c.args.key.now c.remove.ensures.updates.0))
    (terms_fewer (map.from_entries c.self.inside.by_key.entries) c.args.key.now c.self.invariant)

pub returns : goal.returns
returns c =
    remove_in keys_total keys_exact c.self.inside.by_key c.remove.new.self c.args.key.now c.remove.ensures.updates.0
    ∙ ap (λ m. map.remove m c.args.key.now) c.self.view_is
