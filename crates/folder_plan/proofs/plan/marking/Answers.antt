use Rattle.std.proofs.Common.{[], ◌∷◌, ◌++◌, inl, inr, refl, sym}
use Rattle.std.specs.List.{Contains}
use Rattle.std.proofs.lemmas.List.{append_assoc}
use Rattle.folder_plan.specs.declared.step.FolderStep.TheVariants.{Name, Mark, Sign, Unsign, Sync}
use Rattle.folder_plan.specs.Order.{HasAllNames, HasIdentity}
use Rattle.folder_plan.proofs.Lists.{not-in_nil, in-cons, in-head}
use Rattle.folder_plan.proofs.Steps.{Follows-nil, Follows-push}
use Rattle.folder_plan.proofs.plan.marking.Goals as goal

kept : Contains (Sync ∷ []) Unsign → ⊥
kept there = elim (in-cons Sync [] Unsign there) [ inl same ↦ absurd cc | inr none ↦ not-in_nil Unsign none ]

pub returns-clause-order : goal.returns-clause-order
returns-clause-order c = λ begun.
    let names : HasAllNames (begun ++ Sign ∷ Sync ∷ []) = record { first = begun ++ Sign ∷ []; rest = []; done = sym (append_assoc begun (Sign ∷ []) (Sync ∷ [])); none = λ i. not-in_nil (Name i) } in
    let identity : HasIdentity (begun ++ Sign ∷ Sync ∷ []) = record { first = begun; rest = Sync ∷ []; done = refl; synced = in-head Sync []; kept = kept } in
    let first = Follows-push begun [] Sign (Follows-nil begun) tt in
    let second = Follows-push begun (Sign ∷ []) Sync first tt in
    let third = Follows-push begun (Sign ∷ Sync ∷ []) Mark second (names, identity) in
    Follows-push begun (Sign ∷ Sync ∷ Mark ∷ []) Sync third tt

pub returns-clause-marked : goal.returns-clause-marked
returns-clause-marked c = record { first = Sign ∷ Sync ∷ []; rest = Sync ∷ []; done = refl; synced = in-head Sync [] }
