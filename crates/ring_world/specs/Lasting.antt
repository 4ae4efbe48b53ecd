-- What holds of the nodes of a ring behind every schedule, as fits tells.
use Rattle.std.specs.Prelude.{ℕ, List}
use Rattle.ring_records.specs.declared.base.Base.{Base}
use Rattle.ring_records.specs.Fitting.{RingFits}
use Rattle.ring_records.specs.Lawful.{IsLawfulState}
use Rattle.ring_records.specs.Member.{member}
use Rattle.ring_records.specs.States.{durable_in}
use Rattle.ring_world.specs.Capacity.{state_after}
use Rattle.ring_world.specs.Events.{Action}

-- the durable histories of all nodes fit, of whatever place in them is known
abbrev pub DurableFits : (ℕ → Base) → ℕ → ℕ → List (ℕ × Action) → Type 0
DurableFits start n capacity events = RingFits n (λ i place. Unit {0}) (λ i. durable_in (state_after start n capacity events i))

-- each node's state is lawful
abbrev pub AreLawful : (ℕ → Base) → ℕ → ℕ → List (ℕ × Action) → Type 0
AreLawful start n capacity events = (i : ℕ) → IsLawfulState (member i n capacity) (state_after start n capacity events i)
