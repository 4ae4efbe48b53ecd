-- What one more item changes for a loop over a list, and over a history.
use Rattle.std.proofs.Common.{ℕ, ◌≡◌, ◌+◌, ◌≤◌, ◌<◌, true, false, cond, List, [], ◌∷◌, ◌++◌, length, take, drop, get_or, Some, None, sym, ap, ◌∙◌, add-one, zero-add, arith}
use Rattle.std.specs.List.{sum_by}
use Rattle.std.proofs.Math.Seq.{take-suc}
use Rattle.std.proofs.lemmas.List.{take-append-drop}
use Rattle.std.proofs.lemmas.List.Sums.{sum_by-append, sum_by-take-drop}
use Rattle.ring_records.specs.declared.base.Base.{Base}
use Rattle.ring_records.specs.declared.input.Input.{Input}
use Rattle.ring_records.specs.Admission.{newest, cost, costs_of, used, snapshot_len, room_of, must_renew, lacks, no_area, no_room, shortage}
use Rattle.ring_records.specs.Objection.{where_so}
use Rattle.ring_records.specs.declared.refusal.Refusal.TheVariants.{Full}
use Rattle.std.proofs.lemmas.Bool.{le-leb}
use Rattle.ring_records.specs.Summary.{summary}

-- the item of this iteration, as a loop knows it
pub record IsItem {A : Type 0} (xs : List A) (i : ℕ) (x : A) : Type 0 where
  pub within : i < length xs
  pub is : x ≡ get_or xs i x

pub take-item : {A : Type 0} (xs : List A) (i : ℕ) (x : A) → IsItem xs i x → take (i + 1) xs ≡ take i xs ++ x ∷ []
take-item xs i x here = ap (λ k. take k xs) (add-one i) ∙ (take-suc xs i x here.within ∙ ap (λ y. take i xs ++ y ∷ []) (sym here.is))

pub cut-item : {A : Type 0} (xs : List A) (i : ℕ) (x : A) → IsItem xs i x → xs ≡ (take i xs ++ x ∷ []) ++ drop (i + 1) xs
cut-item xs i x here = sym (take-append-drop (i + 1) xs) ∙ ap (λ ys. ys ++ drop (i + 1) xs) (take-item xs i x here)

pub cost-item : (h : List Input) (i : ℕ) (x : Input) → IsItem h i x → sum_by cost (take (i + 1) h) ≡ sum_by cost (take i h) + cost x
cost-item h i x here = ap (sum_by cost) (take-item h i x here) ∙ (sum_by-append cost (take i h) (x ∷ []) ∙ ap (λ n. sum_by cost (take i h) + n) (zero-add (cost x)))

-- the first inputs take no more than all of them
pub costs-item : (h : List Input) (i : ℕ) (x : Input) → IsItem h i x → (costs_of (take (i + 1) h) ≡ costs_of (take i h) + cost x) × (costs_of (take (i + 1) h) ≤ costs_of h)
costs-item h i x here = (cost-item h i x here, omega (arith, sum_by-take-drop cost h (i + 1)))

pub shortage-full : (me capacity : ℕ) (base : Base) (h : List Input) (x : Input) → must_renew (room_of base h) x ≡ false → base.inputs ≤ length h → lacks capacity (used base h) x ≡ true
    → shortage me capacity base h x ≡ Some Full
unfolding shortage no_room
shortage-full me capacity base h x plain within l = λ i. cond (le-leb base.inputs (length h) within i) (cond (plain i) (no_area capacity (room_of base h) (snapshot_len newest (summary me (h ++ x ∷ [])))) (where_so (l i) Full)) None
