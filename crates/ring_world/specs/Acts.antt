-- What a node with a capacity does, and what may happen to it, by the rule of room of this service.
use Rattle.std.specs.Prelude.{ℕ, ◌+◌, length, Some, List}
use Rattle.ring_records.specs.Admission.{base_of}
use Rattle.ring_records.specs.States.{NodeState}
use Rattle.ring_records.specs.Summary.{summary}
use Rattle.ring_world.specs.Events.{Action, Process, Thing}
use Rattle.ring_world.specs.Events as happening
use Rattle.ring_world.specs.Capacity.{within}
use Rattle.ring_records.specs.declared.base.Base.{Base}
use Rattle.ring_world.specs.Schedules as scheduled

-- all its inputs fly, as a checkpoint of this layout
abbrev pub launched_in : ℕ → ℕ → NodeState → NodeState
launched_in layout me s = record s { flying = length s.inputs; checkpoint = Some (base_of layout (s.base.epoch + 1) (summary me s.inputs)) }

-- node me of a ring of n, with a capacity, after the action
abbrev pub act : ℕ → ℕ → ℕ → Process → Action → Process
act me n capacity p a = happening.act me n (within capacity) p a

-- node i may hand the thing out
abbrev pub IsReleasable : ℕ → ℕ → ℕ → Process → Thing → Type 0
IsReleasable i n capacity p thing = scheduled.IsReleasable i n (within capacity) p thing

-- node i may do this after the events, which made it p
abbrev pub May : ℕ → ℕ → List (ℕ × Action) → ℕ → Process → Action → Type 0
May n capacity events i p a = scheduled.May n (within capacity) events i p a

-- the event may come after these
abbrev pub MayHappen : (ℕ → Base) → ℕ → ℕ → List (ℕ × Action) → ℕ × Action → Type 0
MayHappen start n capacity events event = scheduled.MayHappen start n (within capacity) events event
