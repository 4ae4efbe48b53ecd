-- What a node's inputs take of its capacity.
use Rattle.std.proofs.Common.{◌≡◌, ℕ, ◌+◌, ◌-◌, ◌*◌, ◌≤◌, List, [], ◌∷◌, ◌++◌, length, take, drop, None, sym, ap, ◌∙◌, arith, length-take, length-drop}
use Rattle.std.specs.Prelude.{unwrap_or}
use Rattle.std.proofs.Math.Seq.{take-add}
use Rattle.std.proofs.lemmas.List.{take-append-drop, take_all, drop-append-le}
use Rattle.std.proofs.lemmas.List.Sums.{sum_by-append}
use Rattle.ring_records.specs.declared.base.Base.{Base}
use Rattle.ring_records.specs.declared.input.Input.{Input}
use Rattle.ring_records.specs.declared.input.Input.TheVariants.{Stand, Take, Acked, Retire}
use Rattle.ring_records.specs.Admission.{cost, costs_of, used}
use Rattle.ring_records.specs.States as states
use Rattle.ring_records.specs.States.{NodeState, launched_base, durable_in, flown_in, flying_in}
use Rattle.ring_records.specs.Lawful.{IsNodeState}
use Rattle.ring_records.proofs.Lists.{none≢some}

-- each input takes 13 bytes at least
pub cost_least : (x : Input) → 13 ≤ cost x
unfolding cost
cost_least (Stand key bid) = omega arith
cost_least (Take msg_no msg) = omega arith
cost_least (Acked upto) = omega arith
cost_least (Retire group new) = omega arith

pub costs_least : (l : List Input) → 13 * length l ≤ costs_of l
costs_least [] = omega arith
costs_least (x ∷ l) =
    let few = costs_least l in
    let one = cost_least x in
    omega (arith, few, one, sum_by-append cost (x ∷ []) l)

-- inputs behind those that the base stands for are counted
pub used-joined : (base : Base) (h l : List Input) → base.inputs ≤ length h → used base (h ++ l) ≡ used base h + costs_of l
unfolding used
used-joined base h l within =
    ap (λ g. base.bytes + costs_of g) (drop-append-le base.inputs h l within) ∙ omega (arith, sum_by-append cost (drop base.inputs h) l)

from_to : (d f : ℕ) (h : List Input) → d ≤ f → take d h ++ take (f - d) (drop d h) ≡ take f h
from_to d f h le = let sum : d + (f - d) ≡ f = omega (arith, le) in sym (take-add d (f - d) h) ∙ ap (λ k. take k h) sum

-- what flies stands behind what is durable
pub flown : (s : NodeState) → IsNodeState s → durable_in s ++ flying_in s ≡ flown_in s
flown s counts = from_to s.durable s.flying s.inputs counts.durable

pub durable_count : (s : NodeState) → IsNodeState s → length (durable_in s) ≡ s.durable
durable_count s counts = omega (arith, counts.durable, counts.flying, length-take s.durable s.inputs)

pub flown_costs : (s : NodeState) → IsNodeState s → used s.base (flown_in s) ≡ used s.base (durable_in s) + costs_of (flying_in s)
flown_costs s counts = ap (used s.base) (sym (flown s counts)) ∙ used-joined s.base (durable_in s) (flying_in s) (omega (arith, counts.based, durable_count s counts))

-- and so does all that waits or flies
pub durable_costs : (s : NodeState) → IsNodeState s → used s.base s.inputs ≡ used s.base (durable_in s) + costs_of (drop s.durable s.inputs)
durable_costs s counts = ap (used s.base) (sym (take-append-drop s.durable s.inputs))
    ∙ used-joined s.base (durable_in s) (drop s.durable s.inputs) (omega (arith, counts.based, durable_count s counts))

-- all that wait or fly, as a part of the inputs
pub not_durable : (s : NodeState) → take (length s.inputs - s.durable) (drop s.durable s.inputs) ≡ drop s.durable s.inputs
not_durable s = take_all (length s.inputs - s.durable) (drop s.durable s.inputs) (omega (arith, length-drop s.durable s.inputs))

-- where nothing but a batch flies, the area in use stays
pub base_stays : (s : NodeState) → s.checkpoint ≡ None → launched_base s ≡ s.base
base_stays s none = ap (λ o. unwrap_or o s.base) none

pub launched_counts : (s : NodeState) → s.checkpoint ≡ None → IsNodeState s → IsNodeState (states.launched s)
launched_counts s none counts = record {
  durable = omega (arith, counts.durable, counts.flying);
  flying = omega arith;
  based = counts.based;
  checkpointed = λ b e. none≢some b (sym none ∙ e);
}
