-- What a core knows and accepts since it was opened.
use Rattle.std.proofs.Common.{◌≡◌, ℕ, ◌+◌, List, [], ◌∷◌, ◌++◌, append_assoc, append-nil, take, Bool, true, false, ◌||◌, Result, Ok, Err, is_err, Option, Some, None, refl, sym, ap, ◌∙◌, subst, arith}
use Rattle.std.specs.List.{list_any, sum_by}
use Rattle.std.specs.Prelude.{is_ok, IfOk, IfSome, OnOk, OnErr}
use Rattle.std.specs.Result.{result_err}
use Rattle.std.proofs.lemmas.List.Folds.{list_any-append}
use Rattle.std.proofs.lemmas.List.Sums.{fold-append, sum_by_push}
use Rattle.std.proofs.lemmas.Option.{same_Some}
use Rattle.ring_records.specs.declared.input.Input.{Input}
use Rattle.ring_records.specs.declared.refusal.Refusal.{Refusal}
use Rattle.ring_records.specs.declared.summary.Summary.{Summary}
use Rattle.ring_records.specs.Admission.{cost, is_retire}
use Rattle.ring_records.specs.Known.{Objects, stepped, after}
use Rattle.ring_records.specs.Lists.{EachAfter}
use Rattle.ring_records.proofs.Admission.{or_else-none}
use Rattle.ring_records.proofs.Growth.{EachAfter-front}
use Rattle.ring_records.proofs.Lists.{EachAfter-push, none≢some}
use Rattle.ring_records.proofs.Iteration.{IsItem, take-item}
use Rattle.node_core.specs.Core.{CoreView, Refuses}
use Rattle.node_core.specs.FreeCore.{taking}
use Rattle.group_commit.specs.Opening.{core_after, IsOpenTo, IsKnownLawful}
use Rattle.group_commit.specs.Outbox.{AreFree}
use Rattle.group_commit.proofs.Settling.{after-push}

-- where it refuses an input for nothing, nothing is known against it
pub objects_none : (core : CoreView) (x : Input) → Refuses core x None → Objects core.size core.known x None
objects_none core x (first, objects, e) = subst (Objects core.size core.known x) (or_else-none _ _ (sym e)).0 objects

-- ---- one more input

or-none : (b : Bool) → b ≡ (b || false)
or-none true = refl
or-none false = refl

or-assoc : (a b c : Bool) → ((a || b) || c) ≡ (a || (b || c))
or-assoc true b c = refl
or-assoc false b c = refl

pub core-none : (core : CoreView) → core ≡ core_after core []
core-none core =
    let same : core.room.taken ≡ core.room.taken + 0 = omega arith in
    λ i. record core { room = record core.room { taken = same i; waits = or-none core.room.waits i } }

-- what the core becomes
pub core-push : (first core new : CoreView) (l : List Input) (x : Input) → core ≡ core_after first l → new ≡ record core { known = stepped core.me core.known x; room = taking x core.room }
    → new ≡ core_after first (l ++ x ∷ [])
core-push first core new l x is steps =
    let sum = sum_by_push cost l x in
    let same : first.room.taken + sum_by cost l + cost x ≡ first.room.taken + sum_by cost (l ++ x ∷ []) = omega (arith, sum) in
    let waits : ((first.room.waits || list_any is_retire l) || is_retire x) ≡ (first.room.waits || list_any is_retire (l ++ x ∷ [])) =
    or-assoc first.room.waits (list_any is_retire l) (is_retire x)
    ∙ ap (λ b. first.room.waits || b) (ap (λ b. list_any is_retire l || b) (or-none (is_retire x)) ∙ sym (list_any-append is_retire l (x ∷ []))) in
    steps ∙ (ap (λ (c : CoreView). record c { known = stepped c.me c.known x; room = taking x c.room }) is
    ∙ λ i. record first { known = sym (after-push first.me first.known l x) i; room = record first.room { taken = same i; waits = waits i } })

pub core-item : (first core new : CoreView) (inputs : List Input) (i : ℕ) (x : Input) → core ≡ core_after first (take i inputs) → IsItem inputs i x
    → new ≡ record core { known = stepped core.me core.known x; room = taking x core.room }
    → new ≡ core_after first (take (i + 1) inputs)
core-item first core new inputs i x is here steps = core-push first core new (take i inputs) x is steps ∙ ap (core_after first) (sym (take-item inputs i x here))

-- it stays lawful
pub lawful-item : (first core : CoreView) (inputs : List Input) (i : ℕ) (x : Input) → core ≡ core_after first (take i inputs) → IsItem inputs i x → IsKnownLawful first (take i inputs)
    → Refuses core x None → IsKnownLawful first (take (i + 1) inputs)
lawful-item first core inputs i x is here lawful free =
    subst (IsKnownLawful first) (sym (take-item inputs i x here)) (EachAfter-push (IsOpenTo first) [] (take i inputs) x lawful (subst (λ (c : CoreView). Refuses c x None) is free))

-- ---- inputs that it accepted

pub EachAfter-behind : {A : Type 0} (P : List A → A → Type 0) (before xs ys : List A) → EachAfter P before (xs ++ ys) → EachAfter P (before ++ xs) ys
unfolding EachAfter
EachAfter-behind P before [] ys each = rw append-nil each
EachAfter-behind P before (x ∷ xs) ys each = rw append_assoc at (EachAfter-behind P (before ++ x ∷ []) xs ys each.1)

pub EachAfter-from : {A : Type 0} (P Q : List A → A → Type 0) (start : List A) → ((before : List A) (x : A) → P (start ++ before) x → Q before x) → (before xs : List A)
    → EachAfter P (start ++ before) xs → EachAfter Q before xs
unfolding EachAfter
EachAfter-from P Q start so before [] each = tt
EachAfter-from P Q start so before (x ∷ xs) each = (so before x each.0, EachAfter-from P Q start so (before ++ x ∷ []) xs (rw append_assoc at each.1))

-- nothing is against those that stand in the midst of them
pub free-part : (me n : ℕ) (s : Summary) (front l rest : List Input) → AreFree me n s (front ++ (l ++ rest)) → AreFree me n (after me s front) l
free-part me n s front l rest each =
    let P : List Input → Input → Type 0 = λ before x. Objects n (after me s before) x None in
    EachAfter-from P (λ before x. Objects n (after me (after me s front) before) x None) front
    (λ before x free. subst (λ (t : Summary). Objects n t x None) (fold-append (stepped me) s front before) free)
    [] l (rw append-nil (EachAfter-front P front l rest (EachAfter-behind P [] front (l ++ rest) each)))

-- ---- results

-- a result that is refused names why
pub why : (result : Result (Unit {0}) Refusal) → is_err result ≡ true → (refusal : Refusal) × (result_err result ≡ Some refusal)
why (Ok x) e = absurd cc
why (Err refusal) e = (refusal, refl)

pub why_not : (result : Result (Unit {0}) Refusal) → is_err result ≡ false → result_err result ≡ None
why_not (Ok x) e = refl
why_not (Err refusal) e = absurd cc

pub on_ok : {T E : Type 0} {P : Type 0} (r : Result T E) → is_ok r ≡ true → OnOk r P → P
on_ok (Ok x) e p = p
on_ok (Err x) e p = absurd cc

pub map_ok : {T E P Q : Type 0} (r : Result T E) → (P → Q) → OnOk r P → OnOk r Q
map_ok (Ok x) f p = f p
map_ok (Err e) f p = tt

pub on_err : {T E : Type 0} {P : Type 0} (r : Result T E) → is_err r ≡ true → OnErr r P → P
on_err (Ok x) e p = absurd cc
on_err (Err x) e p = p

pub ok_so : {T E : Type 0} (P Q : T → Type 0) (r : Result T E) → ((x : T) → P x → Q x) → IfOk r P → IfOk r Q
ok_so P Q (Ok x) so p = so x p
ok_so P Q (Err x) so p = tt

pub if_some : {A : Type 0} (P : A → Type 0) (o : Option A) → IfSome o P → (x : A) → o ≡ Some x → P x
if_some P None p x e = none≢some x e
if_some P (Some y) p x e = subst P (same_Some y x e) p

pub when_err : {T E : Type 0} {P : Type 0} (r : Result T E) → P → OnErr r P
when_err (Ok x) p = tt
when_err (Err x) p = p
