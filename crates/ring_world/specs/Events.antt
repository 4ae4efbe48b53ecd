-- What happens to the nodes of a ring, crashes among it, and where it leads, by whatever rule of room. Events are told in a list,
-- oldest first. An event is a node and what it does.
use Rattle.std.specs.Prelude.{ℕ, Bool, ◌+◌, List, [], ◌∷◌, ◌++◌, length, Some}
use Rattle.std.specs.List.{fold}
use Rattle.ring_records.specs.declared.base.Base.{Base}
use Rattle.ring_records.specs.declared.candidate.Candidate.{Candidate}
use Rattle.ring_records.specs.declared.input.Input.{Input}
use Rattle.ring_records.specs.declared.key.Key.{Key}
use Rattle.ring_records.specs.declared.packet.Packet.{Packet}
use Rattle.ring_records.specs.declared.request.Request.{Request}
use Rattle.ring_records.specs.Answer.{Rule, gained, Answered, answered}
use Rattle.ring_records.specs.Part.{part}
use Rattle.ring_records.specs.States.{NodeState, launched_base, opened, launched, landed, left_by}

-- the reply to a request, a packet to a neighbour, or, on a board, the leader for a key
pub data Thing : Type 0 where
  Replied : Answered → Thing
  Sent : Packet → Thing
  Shown : Key → Candidate → Thing

pub data Action : Type 0 where
  -- it is asked
  Submit : Request → Action
  -- a batch of its inputs begins to fly
  Launch : Action
  -- all its inputs begin to fly, as a checkpoint of this layout
  LaunchAll : ℕ → Action
  -- what flies is durable
  Land : Action
  -- it hands the thing out
  Release : Thing → Action
  -- it stops, and is opened again: with what flies, or without
  Crash : Bool → Action

-- a node at work: what it accepted; the answers that it keeps, each with its request; and how many first inputs its last
-- opening stood for, which it has no more
pub record Process : Type 0 where
  pub state : NodeState
  pub kept : List Answered
  pub dropped : ℕ

-- it is opened in this state, and keeps no answer
abbrev pub started : NodeState → Process
started state = record { state = state; kept = []; dropped = state.base.inputs }

-- A rule of room for all nodes: what room says at a node, counted from what an area stands for; and what the area of a
-- checkpoint stands for, by its layout, the node, what the area before it stands for, and all inputs of the node.
pub record RoomRule : Type 0 where
  pub says : ℕ → Base → Rule
  pub stands : ℕ → ℕ → Base → List Input → Base

-- what room says in this state: it is counted from the area that is in use once all that flies is durable
abbrev pub rule_of : RoomRule → ℕ → NodeState → Rule
rule_of room me s = room.says me (launched_base s)

-- node me of a ring of n after the action
unfoldable pub act : ℕ → ℕ → RoomRule → Process → Action → Process
act me n room p (Submit q) = record p {
  state = record p.state { inputs = p.state.inputs ++ gained me n (rule_of room me p.state) p.state.inputs q };
  kept = p.kept ++ answered me n (rule_of room me p.state) p.state.inputs q ∷ [];
}
act me n room p Launch = record p { state = launched p.state }
act me n room p (LaunchAll layout) = record p { state = record p.state { flying = length p.state.inputs; checkpoint = Some (room.stands layout me p.state.base p.state.inputs) } }
act me n room p Land = record p { state = landed p.state }
act me n room p (Release thing) = p
act me n room p (Crash keeps_flying) = started (left_by keeps_flying p.state)

-- node i after the events, where the journal of each node began with this base
unfoldable pub process : (ℕ → Base) → ℕ → RoomRule → List (ℕ × Action) → ℕ → Process
process start n room events i = fold (act i n room) (started (opened (start i) [])) (part events i)

-- what node i accepted, and how much of it is durable, after the events
abbrev pub state_after : (ℕ → Base) → ℕ → RoomRule → List (ℕ × Action) → ℕ → NodeState
state_after start n room events i = (process start n room events i).state
