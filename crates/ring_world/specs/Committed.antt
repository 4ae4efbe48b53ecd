-- The inputs of all nodes, in the order in which they became durable.
use Rattle.std.specs.Prelude.{ℕ, if◌then◌else◌, List, [], map}
use Rattle.ring_records.specs.declared.base.Base.{Base}
use Rattle.ring_records.specs.declared.input.Input.{Input}
use Rattle.ring_records.specs.Lists.{joined_after}
use Rattle.ring_records.specs.States.{NodeState, flying_in}
use Rattle.ring_world.specs.Events.{Action, Submit, Launch, LaunchAll, Land, Release, Crash, RoomRule, state_after}

-- the inputs that the action makes durable: those that land, or that a crash keeps
unfoldable pub made_durable : NodeState → Action → List Input
made_durable s (Submit q) = []
made_durable s Launch = []
made_durable s (LaunchAll layout) = []
made_durable s Land = flying_in s
made_durable s (Release thing) = []
made_durable s (Crash keeps_flying) = if keeps_flying then flying_in s else []

-- those of the event, each with its node
unfoldable pub committed_by : (ℕ → Base) → ℕ → RoomRule → List (ℕ × Action) → ℕ × Action → List (ℕ × Input)
committed_by start n room events event = map (λ x. (event.0, x)) (made_durable (state_after start n room events event.0) event.1)

-- those of all events
unfoldable pub committed : (ℕ → Base) → ℕ → RoomRule → List (ℕ × Action) → List (ℕ × Input)
committed start n room events = joined_after (committed_by start n room) [] events
