-- How many inputs of a desk wait, where room is told by what they cost.
use Rattle.std.proofs.Common.{ℕ, ◌≡◌, ◌*◌, ◌≤◌, false, List, length, drop, None, inl, inr, ap, subst, arith}
use Rattle.std.specs.Prelude.{◌&&◌, nat_lt}
use Rattle.std.specs.List.{list_any}
use Rattle.std.proofs.Math.Nat.{eq-or-lt_of_le}
use Rattle.std.proofs.lemmas.List.{length-drop}
use Rattle.ring_records.specs.declared.base.Base.{Base}
use Rattle.ring_records.specs.declared.input.Input.{Input}
use Rattle.ring_records.specs.declared.summary.Summary.{Summary}
use Rattle.ring_records.specs.Admission.{is_retire, newest}
use Rattle.ring_records.specs.Member.{Member}
use Rattle.ring_records.specs.States.{NodeState}
use Rattle.group_commit.specs.Opening.{waits_for_area}
use Rattle.group_commit.specs.Since.{IsLawfulSince, IsKnownState}
use Rattle.group_commit.proofs.Costs.{base_stays, costs_least, durable_costs}
use Rattle.group_commit.proofs.Since.{all_fit}

-- an area of the newest layout has a record for each input
pub holds_all : (base : Base) (l : List Input) → base.layout ≡ newest → waits_for_area base l ≡ false
holds_all base l layout = ap (λ (k : ℕ). nat_lt k newest && list_any is_retire (drop base.inputs l)) layout

-- what is not durable takes no more than the capacity, where no checkpoint flies and the area in use has that layout
pub few_wait : (m : Member) (opening : Summary) (s : NodeState) → s.checkpoint ≡ None → s.base.layout ≡ newest → IsKnownState m opening s
    → 13 * length (drop s.durable s.inputs) ≤ m.capacity
few_wait m opening s none layout known = elim (eq-or-lt_of_le within) [
  | inl all ↦ omega (arith, length-drop s.durable s.inputs, all)
  | inr some ↦ (
      let lawful = subst (λ (b : Base). IsLawfulSince m opening b s.inputs) (base_stays s none) known.all in
      let fit = all_fit m opening s.base s.inputs lawful (holds_all s.base s.inputs layout) (omega (arith, known.counts.based, some)) in
      omega (arith, fit, durable_costs s known.counts, costs_least (drop s.durable s.inputs)))
]
  where
    within : s.durable ≤ length s.inputs
    within = omega (arith, known.counts.durable, known.counts.flying)
