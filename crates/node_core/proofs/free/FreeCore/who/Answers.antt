use Rattle.std.proofs.Common.{rules, ◌≡◌, ltb, false, ℕ, Some, sym, ap, subst, ◌∙◌}
use Rattle.ring_records.proofs.Lists.{none≢some}
use Rattle.std.proofs.lemmas.Option.{same_Some}
use Rattle.groups_terms.proofs.States.{leader_in}
use Rattle.node_core.specs.Brought.{who_by}
use Rattle.node_core.specs.FreeCore.{FreeView}
use Rattle.node_core.specs.Kept.{known_with}
use Rattle.node_core.proofs.Refusals.{who_below, who_live}
use Rattle.node_core.proofs.free.FreeCore.who.Goals as goal
use Rattle.node_core.proofs.free.FreeCore.who.Goals.{in-Some+else-lt, in_default}

pub returns-then-lt : goal.returns-then-lt
returns-then-lt c =
    let k = known_with c.self.inside.inputs c.self.inside.table c.self.inside.outlink.link c.self.inside.inlink in
    who_below k c.args.key.now c.floor.result c.in-Some.floor c.floor.ensures c.in-Some.is (search rules)
    ∙ ap (λ (v : FreeView). who_by v.known c.args.key.now) c.self.view_is

pub returns : goal.returns
returns c =
    let k = known_with c.self.inside.inputs c.self.inside.table c.self.inside.outlink.link c.self.inside.inlink in
    let live : (floor : ℕ) → c.floor.result ≡ Some floor → ltb c.args.key.now.term floor ≡ false = λ floor is. elim c.match-floor.branch [
      | in-Some+else-lt w ↦ subst (λ n. ltb c.args.key.now.term n ≡ false) (same_Some w.in-Some.floor floor (sym w.in-Some.is ∙ is)) (search rules)
      | in_default w ↦ none≢some floor (sym w.in_default.is ∙ is)
    ] in
    who_live k c.args.key.now c.floor.result c.who.result c.floor.ensures live (c.who.ensures ∙ sym (leader_in c.self.inside.table c.args.key.now))
    ∙ ap (λ (v : FreeView). who_by v.known c.args.key.now) c.self.view_is
