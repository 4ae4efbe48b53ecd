-- The rule of room of this service, and where events lead by it.
use Rattle.std.specs.Prelude.{ℕ, ◌+◌, List}
use Rattle.ring_records.specs.declared.base.Base.{Base}
use Rattle.ring_records.specs.declared.input.Input.{Input}
use Rattle.ring_records.specs.Admission.{base_of, shortage, fresh}
use Rattle.ring_records.specs.States.{NodeState}
use Rattle.ring_records.specs.Summary.{summary}
use Rattle.ring_world.specs.Committed as ended
use Rattle.ring_world.specs.Events.{Action, Process, RoomRule}
use Rattle.ring_world.specs.Events as happening

-- what this capacity says, counted from what an area stands for, and the areas of checkpoints, which begin with a summary
abbrev pub within : ℕ → RoomRule
within capacity = record {
  says = λ me base. shortage me capacity base;
  stands = λ layout me base h. base_of layout (base.epoch + 1) (summary me h);
}

-- node i after the events, where the journal of each node began with this base
abbrev pub process : (ℕ → Base) → ℕ → ℕ → List (ℕ × Action) → ℕ → Process
process start n capacity events i = happening.process start n (within capacity) events i

-- what node i accepted, and how much of it is durable, after the events
abbrev pub state_after : (ℕ → Base) → ℕ → ℕ → List (ℕ × Action) → ℕ → NodeState
state_after start n capacity events i = (process start n capacity events i).state

-- the inputs that became durable, in this order, each with its node
abbrev pub committed : (ℕ → Base) → ℕ → ℕ → List (ℕ × Action) → List (ℕ × Input)
committed start n capacity events = ended.committed start n (within capacity) events

-- this version formatted the journal of each node
abbrev pub all_fresh : ℕ → Base
all_fresh i = fresh
