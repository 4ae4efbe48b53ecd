use Rattle.std.proofs.Common.{rules, ◌≡◌, ◌-◌, ◌∙◌, sym, subst, take, drop}
use Rattle.std.specs.Bool.{Decides}
use lib.Pointwise.{pointwise}
use Rattle.std.proofs.lemmas.Slice.Eq.{slice_eq-Decides}
use Rattle.ring_records.specs.declared.input.Input.{Input}
use Rattle.ring_records.specs.contracts.input.InputPartialEq as derived
use Rattle.gated_journal.specs.Batch.{kept_in}
use Rattle.group_commit.specs.Desk.{DeskKept}
use Rattle.group_commit.specs.DeskCalls.{IsFlying}
use Rattle.group_commit.proofs.desk.Desk.is_flying.Goals as goal

same : (a b : Input) → Decides ((derived.TheImpl.eq-value).it a b) (a ≡ b)
same a b = search rules

-- whether the inputs are those that fly
told : (c : goal.After-eq-then-first-durable)
    → Decides c.eq-then-first-durable.result (c.args.flown.now.inputs.items ≡ take (c.self.inside.flying - c.self.inside.durable) (drop c.self.inside.durable c.self.inside.inputs.all.list))
told c =
    let d = c.self.inside in
    slice_eq-Decides same _ _ _ (c.eq-then-first-durable.ensures
    ∙ λ i. pointwise (derived.TheImpl.eq-value).it (c.inputs-inputs.ensures.value i) (c.between-flying.ensures i))

pub returns-then-first-durable-clause-yes : goal.returns-then-first-durable-clause-yes
returns-then-first-durable-clause-yes c = λ e. subst (λ (v : DeskKept). IsFlying v (kept_in c.args.flown.now)) c.self.view_is (record { node = search rules; first = search rules; inputs = (told c).0 e; snapshot = search rules })

pub returns-then-first-durable-clause-no : goal.returns-then-first-durable-clause-no
returns-then-first-durable-clause-no c = λ e is.
    let here = subst (λ (v : DeskKept). IsFlying v (kept_in c.args.flown.now)) (sym c.self.view_is) is in
    let yes = (told c).1 here.inputs in cc
