use Rattle.std.proofs.Common.{[], ◌∷◌, ◌++◌, inl, inr, sym}
use Rattle.std.specs.List.{Contains}
use Rattle.std.proofs.lemmas.List.{append_assoc}
use Rattle.folder_plan.specs.declared.step.FolderStep.TheVariants.{Clear, Format, Name, Mark}
use Rattle.folder_plan.specs.Order.{HasBytes}
use Rattle.folder_plan.proofs.Lists.{not-in_nil, in-cons}
use Rattle.folder_plan.proofs.Steps.{Follows-nil, Follows-push, IsUnmarked-more}
use Rattle.folder_plan.proofs.plan.making.Goals as goal

pub returns-clause-order : goal.returns-clause-order
returns-clause-order c = λ begun free.
    let i = c.args.node in
    let bytes : HasBytes (begun ++ Clear i ∷ Format i ∷ []) i = record {
      first = begun ++ Clear i ∷ [];
      rest = [];
      done = sym (append_assoc begun (Clear i ∷ []) (Format i ∷ []));
      kept = not-in_nil (Clear i);
      unnamed = not-in_nil (Name i);
    } in
    let none : Contains (Clear i ∷ Format i ∷ []) Mark → ⊥ = λ there.
    elim (in-cons (Clear i) (Format i ∷ []) Mark there) [
      | inl same ↦ absurd cc
      | inr later ↦ elim (in-cons (Format i) [] Mark later) [ inl same ↦ absurd cc | inr none ↦ not-in_nil Mark none ]
    ] in
    let first = Follows-push begun [] (Clear i) (Follows-nil begun) tt in
    let second = Follows-push begun (Clear i ∷ []) (Format i) first tt in
    Follows-push begun (Clear i ∷ Format i ∷ []) (Name i) second (bytes, IsUnmarked-more begun (Clear i ∷ Format i ∷ []) free none)
