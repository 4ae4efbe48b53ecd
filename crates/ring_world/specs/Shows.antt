-- What a ring keeps to: its nodes are those that its events reach.
use Rattle.std.specs.Prelude.{ℕ, zero, suc, ◌≡◌, ◌+◌, ◌<◌, ◌≤◌, List, [], ◌∷◌, ◌++◌, length, slice_index_or}
use Rattle.std.specs.List.{All, Contains}
use Rattle.ring_records.specs.Member.{member}
use Rattle.ring_node.specs.Node.{NodeView, new_node, state_of}
use Rattle.ring_node.specs.Open.{Open, due, sealed}
use Rattle.ring_world.specs.Events.{Action}
use Rattle.ring_world.specs.Capacity.{process, state_after, all_fresh}
use Rattle.ring_world.specs.CapacitySchedule.{IsSchedule}

-- the open tickets of a node
abbrev pub held_of : NodeView → List Open
held_of v = v.held

-- without those whose replies rest on durable inputs alone
abbrev pub without_due : NodeView → NodeView
without_due v = record v { held = sealed v.durable v.held }

-- its open tickets rest on more inputs than are durable
abbrev pub IsSealed : NodeView → Type 0
IsSealed v = due v.durable v.held ≡ []

-- nodes 1 to k of a ring in which nothing happened
unfoldable pub new_nodes : ℕ → ℕ → ℕ → List NodeView
new_nodes size capacity zero = []
new_nodes size capacity (suc k) = new_nodes size capacity k ++ new_node (k + 1) size capacity ∷ []

-- the node is the one that the events reach
pub record ShowsNode (size capacity : ℕ) (events : List (ℕ × Action)) (i : ℕ) (v : NodeView) : Type 0 where
  pub is : v.member ≡ member i size capacity
  pub state : state_of v ≡ state_after all_fresh size capacity events i
  -- the node keeps the answers of its open tickets
  pub kept : (t : Open) → Contains v.held t → Contains (process all_fresh size capacity events i).kept t.kept
  -- it has as many first inputs no more as its last opening stood for
  pub dropped : v.dropped ≡ (process all_fresh size capacity events i).dropped
  -- it gave at most a ticket an event
  pub few : v.issued ≤ length events

-- the events may happen, and the nodes are those that they reach
pub record Shows (size capacity : ℕ) (events : List (ℕ × Action)) (nodes : List NodeView) : Type 0 where
  pub schedule : IsSchedule all_fresh size capacity events
  pub count : length nodes ≡ size
  pub node : (at : ℕ) (other : NodeView) → at < size → ShowsNode size capacity events (at + 1) (slice_index_or nodes at other)

-- What every ring keeps to that works: it has 2 to 16 nodes, what happened is a schedule, its nodes are those that this
-- reaches, and none of their open tickets is due.
pub record IsSound (size capacity : ℕ) (events : List (ℕ × Action)) (nodes : List NodeView) : Type 0 where
  pub least : 2 ≤ size
  pub most : size ≤ 16
  pub shows : Shows size capacity events nodes
  pub sealed : All IsSealed nodes
