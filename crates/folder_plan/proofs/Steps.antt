-- How a plan grows, and what stays true of steps behind which others are done.
use Rattle.std.proofs.Common.{◌≡◌, List, [], ◌∷◌, ◌++◌, inl, inr, sym, ◌∙◌, ap, subst}
use Rattle.std.specs.List.{Contains}
use Rattle.std.proofs.lemmas.List.{append_assoc}
use Rattle.std.proofs.lemmas.List.Elements.{Contains-append_left}
use Rattle.folder_plan.specs.declared.step.FolderStep.{FolderStep}
use Rattle.folder_plan.specs.declared.step.FolderStep.TheVariants.{Mark, Unmark, Sync}
use Rattle.folder_plan.specs.Order.{IsForGood, IsUnmarked, MayFollow, Follows}
use Rattle.folder_plan.proofs.Lists.{no-split, in-split, split-append, split-push}

pub Follows-nil : (before : List FolderStep) → Follows before []
Follows-nil before = λ first rest step e. absurd (no-split first rest step e)

pub Follows-push : (before plan : List FolderStep) (new : FolderStep) → Follows before plan → MayFollow (before ++ plan) new → Follows before (plan ++ new ∷ [])
Follows-push before plan new old may = λ first rest step e.
    elim (split-push plan first rest new step e) [
      | inl w ↦ old first w.0 step w.1
      | inr w ↦ subst (λ (at : List FolderStep). MayFollow (before ++ at) step) (sym w.0) (subst (λ (s : FolderStep). MayFollow (before ++ plan) s) w.1 may)
    ]

-- a plan behind another one
pub Follows-append : (before one two : List FolderStep) → Follows before one → Follows (before ++ one) two → Follows before (one ++ two)
Follows-append before one two old new = λ first rest step e.
    elim (split-append one two first rest step e) [
      | inl w ↦ old first w.0 step w.1
      | inr w ↦
          (let here : MayFollow ((before ++ one) ++ w.0) step = new w.0 rest step w.2 in
          let along : (before ++ one) ++ w.0 ≡ before ++ first = append_assoc before one w.0 ∙ ap (λ l. before ++ l) (sym w.1) in
          subst (λ (at : List FolderStep). MayFollow at step) along here)
    ]

-- what is for good stays so
pub IsForGood-more : (steps more : List FolderStep) (step : FolderStep) → IsForGood steps step → IsForGood (steps ++ more) step
IsForGood-more steps more step is = record {
  first = is.first;
  rest = is.rest ++ more;
  done = ap (λ l. l ++ more) is.done ∙ append_assoc is.first (step ∷ is.rest) more;
  synced = Contains-append_left is.rest more Sync is.synced;
}

pub IsForGood-later : (steps more : List FolderStep) (step : FolderStep) → IsForGood more step → IsForGood (steps ++ more) step
IsForGood-later steps more step is = record {
  first = steps ++ is.first;
  rest = is.rest;
  done = ap (λ l. steps ++ l) is.done ∙ sym (append_assoc steps is.first (step ∷ is.rest));
  synced = is.synced;
}

-- and steps that make no `ring.made` change nothing of that
pub IsUnmarked-more : (steps more : List FolderStep) → IsUnmarked steps → (Contains more Mark → ⊥) → IsUnmarked (steps ++ more)
IsUnmarked-more steps more old none = λ first rest e.
    elim (split-append steps more first rest Mark e) [
      | inl w ↦ subst (λ (r : List FolderStep). IsForGood r Unmark) (sym w.2) (IsForGood-more w.0 more Unmark (old first w.0 w.1))
      | inr w ↦ absurd (none (subst (λ (l : List FolderStep). Contains l Mark) (sym w.2) (in-split w.0 rest Mark)))
    ]
