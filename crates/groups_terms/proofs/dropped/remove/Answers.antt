use Rattle.std.proofs.Common.{◌≡◌, ◌-◌, ℕ, cond, sym, ap, ◌∙◌, arith}
use Rattle.std.specs.Prelude.{is_some}
use Rattle.groups_terms.specs.Table.{known}
use Rattle.groups_terms.proofs.Dropping.{get_is, removed}
use Rattle.groups_terms.proofs.dropped.remove.Goals as goal

less_none : (n : ℕ) → n ≡ n - 0
less_none n = omega arith

pub returns-then-is_some-clause-ballots : goal.returns-then-is_some-clause-ballots
returns-then-is_some-clause-ballots c = removed c.args.ballots.now c.remove.new.self c.args.key.now c.remove.ensures.updates.0

pub returns-then-is_some-clause-stands : goal.returns-then-is_some-clause-stands
returns-then-is_some-clause-stands c =
    c.saturating_sub.ensures
    ∙ ap (λ n. c.args.stands.now - n) (sym (ap (λ o. cond (is_some (known o).stood) 1 0) (sym (get_is c.args.ballots.now c.args.key.now) ∙ (sym c.remove.ensures.value ∙ c.in-Some.is))
    ∙ ap (λ b. cond b 1 0) (sym c.is_some.ensures ∙ c.if-is_some.true)))

pub returns-else-is_some-clause-ballots : goal.returns-else-is_some-clause-ballots
returns-else-is_some-clause-ballots c = removed c.args.ballots.now c.remove.new.self c.args.key.now c.remove.ensures.updates.0

pub returns-else-is_some-clause-stands : goal.returns-else-is_some-clause-stands
returns-else-is_some-clause-stands c =
    less_none c.args.stands.now ∙ ap (λ n. c.args.stands.now - n) (sym (ap (λ o. cond (is_some (known o).stood) 1 0) (sym (get_is c.args.ballots.now c.args.key.now) ∙ (sym c.remove.ensures.value ∙ c.in-Some.is))
    ∙ ap (λ b. cond b 1 0) (sym c.is_some.ensures ∙ c.if-is_some.false)))

pub returns-in_default-clause-ballots : goal.returns-in_default-clause-ballots
returns-in_default-clause-ballots c = removed c.args.ballots.now c.remove.new.self c.args.key.now c.remove.ensures.updates.0

pub returns-in_default-clause-stands : goal.returns-in_default-clause-stands
returns-in_default-clause-stands c =
    less_none c.args.stands.now ∙ ap (λ n. c.args.stands.now - n) (sym (ap (λ o. cond (is_some (known o).stood) 1 0) (sym (get_is c.args.ballots.now c.args.key.now) ∙ (sym c.remove.ensures.value ∙ c.in_default.is))))
