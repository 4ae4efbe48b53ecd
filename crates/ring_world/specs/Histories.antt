-- What the nodes of a ring hold durably.
use Rattle.std.specs.Prelude.{ℕ, List, map}
use Rattle.std.specs.List.{range_with_len}
use Rattle.ring_records.specs.declared.base.Base.{Base}
use Rattle.ring_records.specs.declared.input.Input.{Input}
use Rattle.ring_records.specs.States.{durable_in}
use Rattle.ring_world.specs.Events.{Action}
use Rattle.ring_world.specs.Capacity.{state_after}

-- the durable inputs of each node, in ring order
abbrev pub histories : (ℕ → Base) → ℕ → ℕ → List (ℕ × Action) → List (List Input)
histories start n capacity events = map (λ i. durable_in (state_after start n capacity events i)) (range_with_len 1 n)
