-- What a ring that fits is not refused for.
use Rattle.std.proofs.Common.{ℕ, List, Result, Ok, Err, inl, inr, sym, subst}
use Rattle.std.specs.Prelude.{IfErr}
use Rattle.ring_records.specs.declared.input.Input.{Input}
use Rattle.ring_records.specs.Fitting.{LinkFits, RingFits}
use Rattle.ring_start.specs.declared.ring_fault.RingFault.{RingFault}
use Rattle.ring_start.specs.declared.ring_fault.RingFault.TheVariants as fault
use Rattle.ring_start.specs.Fits.{IsApart, IsCause, IsMemory}

pub map_err : {A E : Type 0} {P Q : E → Type 0} (r : Result A E) → ((e : E) → P e → Q e) → IfErr r P → IfErr r Q
map_err (Ok x) f p = tt
map_err (Err e) f p = f e p

-- two nodes that do not fit are none of a ring that fits
none_apart : (n : ℕ) (known : ℕ → ℕ → Type 0) (h : ℕ → List Input) (i j : ℕ) → RingFits n known h → IsApart n known h i j → ⊥
none_apart n known h i j fits apart = elim apart.why [
  | inl link ↦ link.unfit (subst (λ k. LinkFits (known i) i (h i) (h k)) (sym link.behind) (fits.links i apart.one.0 apart.one.1))
  | inr two ↦ two.differ (fits.leaders i j apart.one.0 apart.one.1 apart.other.0 apart.other.1 two.key two.one two.two two.here two.there)
]

-- so memory was wanting
pub memory_alone : (n : ℕ) (known : ℕ → ℕ → Type 0) (h : ℕ → List Input) (why : RingFault) → RingFits n known h → IsCause n known h why → IsMemory why
memory_alone n known h (fault.Apart i j) fits cause = absurd (none_apart n known h i j fits cause)
memory_alone n known h (fault.Memory why) fits cause = tt
memory_alone n known h other fits cause = absurd cause
