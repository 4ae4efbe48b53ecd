-- What is taken back, and in which order.
use Rattle.std.proofs.Common.{◌≡◌, ◌⊎◌, List, [], ◌∷◌, ◌++◌, Option, Some, None, Bool, true, false, ◌||◌, if◌then◌else◌, inl, inr, refl, sym, ◌∙◌, ap, subst}
use Rattle.std.specs.List.{Contains, list_any, cons_option}
use Rattle.std.proofs.lemmas.List.{append-nil, append_assoc}
use Rattle.std.proofs.lemmas.List.Elements.{Contains-append_left, Contains-append_right, Contains-append_cases, Contains-push, Contains-push_cases}
use Rattle.folder_plan.specs.declared.step.FolderStep.{FolderStep}
use Rattle.folder_plan.specs.declared.step.FolderStep.TheVariants.{Clear, Format, Name, Mark, Unmark, Unname, Sign, Unsign, Sync}
use Rattle.folder_plan.specs.Order.{IsForGood, IsUnmarked, MayFollow, Follows, TakesBack, IsTakenBack}
use Rattle.folder_plan.specs.Undo.{undone, is_mark, unmarking, unnaming}
use Rattle.folder_plan.proofs.Lists.{not-in_nil, in-head, in-tail, in-cons, in-split, split-at, split-append}
use Rattle.folder_plan.proofs.Steps.{Follows-nil, Follows-push, Follows-append, IsForGood-more, IsForGood-later, IsUnmarked-more}

-- ---- what is there to take back

is_mark_alone : (step : FolderStep) → is_mark step ≡ true → step ≡ Mark
is_mark_alone Mark e = refl
is_mark_alone (Format i) e = absurd cc
is_mark_alone (Name i) e = absurd cc
is_mark_alone (Clear i) e = absurd cc
is_mark_alone (Unname i) e = absurd cc
is_mark_alone Unmark e = absurd cc
is_mark_alone Sign e = absurd cc
is_mark_alone Unsign e = absurd cc
is_mark_alone Sync e = absurd cc

either : (a b : Bool) → (a || b) ≡ true → (a ≡ true) ⊎ (b ≡ true)
either true b e = inl refl
either false b e = inr e

neither : (a b : Bool) → (a || b) ≡ false → (a ≡ false) × (b ≡ false)
neither true b e = absurd cc
neither false b e = (refl, e)

true-not-false : (b : Bool) → b ≡ true → b ≡ false → ⊥
true-not-false b yes_is no_is = cc

mark-found : (begun : List FolderStep) → list_any is_mark begun ≡ true → Contains begun Mark
mark-found [] e = absurd cc
mark-found (step ∷ begun) e =
    elim (either (is_mark step) (list_any is_mark begun) e) [
      | inl here ↦ subst (λ (s : FolderStep). Contains (s ∷ begun) Mark) (sym (is_mark_alone step here)) (in-head Mark begun)
      | inr later ↦ in-tail step begun Mark (mark-found begun later)
    ]

no-mark : (begun : List FolderStep) → list_any is_mark begun ≡ false → Contains begun Mark → ⊥
no-mark [] e there = not-in_nil Mark there
no-mark (step ∷ begun) e there =
    let both = neither (is_mark step) (list_any is_mark begun) e in
    elim (in-cons step begun Mark there) [
      | inl same ↦ (let marked : is_mark step ≡ true = ap is_mark same in let not : is_mark step ≡ false = both.0 in absurd (true-not-false (is_mark step) marked not))
      | inr later ↦ no-mark begun both.1 later
    ]

-- ---- the files

kept-in : (back : Option FolderStep) (rest : List FolderStep) (s : FolderStep) → Contains rest s → Contains (cons_option back rest) s
kept-in None rest s there = there
kept-in (Some b) rest s there = in-tail b rest s there

put-in : (back : Option FolderStep) (rest : List FolderStep) (s : FolderStep) → back ≡ Some s → Contains (cons_option back rest) s
put-in None rest s e = absurd cc
put-in (Some b) rest s e = let same : b ≡ s = cc in subst (λ (v : FolderStep). Contains (v ∷ rest) s) (sym same) (in-head s rest)

-- each step that left a file is taken back
goes : (begun : List FolderStep) (step back : FolderStep) → Contains begun step → undone step ≡ Some back → Contains (unnaming begun) back
goes [] step back there e = absurd (not-in_nil step there)
goes (s ∷ begun) step back there e =
    elim (in-cons s begun step there) [
      | inl same ↦ put-in (undone s) (unnaming begun) back (ap undone same ∙ e)
      | inr later ↦ kept-in (undone s) (unnaming begun) back (goes begun step back later e)
    ]

from-cons : (back : Option FolderStep) (rest : List FolderStep) (s : FolderStep) → Contains (cons_option back rest) s → (back ≡ Some s) ⊎ Contains rest s
from-cons None rest s there = inr there
from-cons (Some b) rest s there = elim (in-cons b rest s there) [ inl same ↦ inl (ap Some same) | inr later ↦ inr later ]

-- and nothing else
came-from : (begun : List FolderStep) (back : FolderStep) → Contains (unnaming begun) back → (step : FolderStep) × Contains begun step × (undone step ≡ Some back)
came-from [] back there = absurd (not-in_nil back there)
came-from (s ∷ begun) back there =
    elim (from-cons (undone s) (unnaming begun) back there) [
      | inl here ↦ (s, in-head s begun, here)
      | inr later ↦ (let w = came-from begun back later in (w.0, in-tail s begun w.0 w.1, w.2))
    ]

takes-back : (begun : List FolderStep) (step back : FolderStep) → Contains begun step → undone step ≡ Some back → TakesBack begun back
takes-back begun (Format i) back there e = let same : Clear i ≡ back = cc in subst (TakesBack begun) same there
takes-back begun (Name i) back there e = let same : Unname i ≡ back = cc in subst (TakesBack begun) same there
takes-back begun (Clear i) back there e = absurd cc
takes-back begun (Unname i) back there e = absurd cc
takes-back begun Sign back there e = let same : Unsign ≡ back = cc in subst (TakesBack begun) same there
takes-back begun Unsign back there e = absurd cc
takes-back begun Mark back there e = absurd cc
takes-back begun Unmark back there e = absurd cc
takes-back begun Sync back there e = absurd cc

-- what takes a file away may be done where there is no `ring.made`
may-follow : (before : List FolderStep) (step back : FolderStep) → IsUnmarked before → undone step ≡ Some back → MayFollow before back
may-follow before (Format i) back free e = let same : Clear i ≡ back = cc in subst (MayFollow before) same tt
may-follow before (Name i) back free e = let same : Unname i ≡ back = cc in subst (MayFollow before) same free
may-follow before (Clear i) back free e = absurd cc
may-follow before (Unname i) back free e = absurd cc
may-follow before Sign back free e = let same : Unsign ≡ back = cc in subst (MayFollow before) same free
may-follow before Unsign back free e = absurd cc
may-follow before Mark back free e = absurd cc
may-follow before Unmark back free e = absurd cc
may-follow before Sync back free e = absurd cc

no-mark-back : (step : FolderStep) → undone step ≡ Some Mark → ⊥
no-mark-back (Format i) e = cc
no-mark-back (Name i) e = cc
no-mark-back (Clear i) e = cc
no-mark-back (Unname i) e = cc
no-mark-back Sign e = cc
no-mark-back Unsign e = cc
no-mark-back Mark e = cc
no-mark-back Unmark e = cc
no-mark-back Sync e = cc

unnaming-follows : (begun before : List FolderStep) → IsUnmarked before → Follows before (unnaming begun)
unnaming-follows begun before free = λ first rest step e.
    let there : Contains (unnaming begun) step = subst (λ (l : List FolderStep). Contains l step) (sym e) (in-split first rest step) in
    let from = came-from begun step there in
    let none : Contains first Mark → ⊥ = λ mark.
    (let in_plan : Contains (unnaming begun) Mark = subst (λ (l : List FolderStep). Contains l Mark) (sym e) (Contains-append_left first (step ∷ rest) Mark mark) in
    let w = came-from begun Mark in_plan in
    no-mark-back w.0 w.2) in
    may-follow (before ++ first) from.0 step (IsUnmarked-more before first free none) from.2

-- ---- `ring.made`

gone : IsForGood (Unmark ∷ Sync ∷ []) Unmark
gone = record { first = []; rest = Sync ∷ []; done = refl; synced = in-head Sync [] }

not-two : Contains (Unmark ∷ Sync ∷ []) Mark → ⊥
not-two there =
    elim (in-cons Unmark (Sync ∷ []) Mark there) [
      | inl same ↦ absurd cc
      | inr later ↦ elim (in-cons Sync [] Mark later) [ inl same ↦ absurd cc | inr none ↦ not-in_nil Mark none ]
    ]

-- behind the first part there is no `ring.made`
unmarked-by : (b : Bool) (begun : List FolderStep) → list_any is_mark begun ≡ b → IsUnmarked (begun ++ (if b then Unmark ∷ Sync ∷ [] else []))
unmarked-by true begun so = λ first rest e.
    elim (split-append begun (Unmark ∷ Sync ∷ []) first rest Mark e) [
      | inl w ↦ subst (λ (r : List FolderStep). IsForGood r Unmark) (sym w.2) (IsForGood-later w.0 (Unmark ∷ Sync ∷ []) Unmark gone)
      | inr w ↦ absurd (not-two (subst (λ (l : List FolderStep). Contains l Mark) (sym w.2) (in-split w.0 rest Mark)))
    ]
unmarked-by false begun not_so = λ first rest e.
    let whole : begun ≡ first ++ Mark ∷ rest = sym (append-nil begun) ∙ e in
    absurd (no-mark begun not_so (subst (λ (l : List FolderStep). Contains l Mark) (sym whole) (in-split first rest Mark)))

marks-by : (b : Bool) (begun : List FolderStep) → list_any is_mark begun ≡ b → Contains begun Mark → IsForGood (if b then Unmark ∷ Sync ∷ [] else []) Unmark
marks-by true begun so there = gone
marks-by false begun not_so there = absurd (no-mark begun not_so there)

follows-by : (b : Bool) (begun : List FolderStep) → Follows begun (if b then Unmark ∷ Sync ∷ [] else [])
follows-by true begun = Follows-push begun (Unmark ∷ []) Sync (Follows-push begun [] Unmark (Follows-nil begun) tt) tt
follows-by false begun = Follows-nil begun

alone-by : (b : Bool) (begun : List FolderStep) (step : FolderStep) → list_any is_mark begun ≡ b → Contains (if b then Unmark ∷ Sync ∷ [] else []) step → TakesBack begun step
alone-by true begun step so there =
    elim (in-cons Unmark (Sync ∷ []) step there) [
      | inl same ↦ subst (TakesBack begun) same (mark-found begun so)
      | inr later ↦ elim (in-cons Sync [] step later) [ inl same ↦ subst (TakesBack begun) same tt | inr none ↦ absurd (not-in_nil step none) ]
    ]
alone-by false begun step not_so there = absurd (not-in_nil step there)

-- ---- the whole

pub taken-follows : (begun : List FolderStep) → Follows begun ((unmarking begun ++ unnaming begun) ++ Sync ∷ [])
taken-follows begun =
    let names = unnaming-follows begun (begun ++ unmarking begun) (unmarked-by (list_any is_mark begun) begun refl) in
    let both = Follows-append begun (unmarking begun) (unnaming begun) (follows-by (list_any is_mark begun) begun) names in
    Follows-push begun (unmarking begun ++ unnaming begun) Sync both tt

-- what stands before the last sync is for good behind it
ends-for-good : (plan : List FolderStep) (step : FolderStep) → Contains plan step → IsForGood (plan ++ Sync ∷ []) step
ends-for-good plan step there =
    let w = split-at plan step there in
    record {
      first = w.0;
      rest = w.1 ++ Sync ∷ [];
      done = ap (λ l. l ++ Sync ∷ []) w.2 ∙ append_assoc w.0 (step ∷ w.1) (Sync ∷ []);
      synced = Contains-push w.1 Sync;
    }

file-goes : (begun : List FolderStep) (step back : FolderStep) → undone step ≡ Some back → Contains begun step → IsForGood ((unmarking begun ++ unnaming begun) ++ Sync ∷ []) back
file-goes begun step back is there = ends-for-good (unmarking begun ++ unnaming begun) back (Contains-append_right (unmarking begun) (unnaming begun) back (goes begun step back there is))

mark-goes : (begun : List FolderStep) → Contains begun Mark → IsForGood ((unmarking begun ++ unnaming begun) ++ Sync ∷ []) Unmark
mark-goes begun there = IsForGood-more (unmarking begun ++ unnaming begun) (Sync ∷ []) Unmark (IsForGood-more (unmarking begun) (unnaming begun) Unmark (marks-by (list_any is_mark begun) begun refl there))

nothing-else : (begun : List FolderStep) (step : FolderStep) → Contains ((unmarking begun ++ unnaming begun) ++ Sync ∷ []) step → TakesBack begun step
nothing-else begun step there =
    elim (Contains-push_cases (unmarking begun ++ unnaming begun) Sync step there) [
      | inl before ↦ elim (Contains-append_cases (unmarking begun) (unnaming begun) step before) [
        | inl mark ↦ alone-by (list_any is_mark begun) begun step refl mark
        | inr file ↦ (let w = came-from begun step file in takes-back begun w.0 step w.1 w.2)
      ]
      | inr same ↦ subst (TakesBack begun) same tt
    ]

pub taken-whole : (begun : List FolderStep) → IsTakenBack begun ((unmarking begun ++ unnaming begun) ++ Sync ∷ [])
taken-whole begun = record {
  mark = mark-goes begun;
  nodes = λ i there. file-goes begun (Name i) (Unname i) refl there;
  files = λ i there. file-goes begun (Format i) (Clear i) refl there;
  identity = λ there. file-goes begun Sign Unsign refl there;
  alone = nothing-else begun;
}
