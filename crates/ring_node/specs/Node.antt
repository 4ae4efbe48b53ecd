-- What a node of the ring shows, and what its calls make of it. Nothing flies between its calls.
use Rattle.std.specs.Prelude.{ℕ, ◌+◌, Bool, nat_le, List, [], ◌∷◌, ◌++◌, length, take, Option, None}
use Rattle.ring_records.specs.declared.base.Base.{Base}
use Rattle.ring_records.specs.declared.input.Input.{Input}
use Rattle.ring_records.specs.declared.request.Request.{Request}
use Rattle.ring_records.specs.States.{NodeState, launched_base, launched, left_by}
use Rattle.ring_records.specs.Serving.{gained_by, answered_by}
use Rattle.ring_records.specs.Launching.{launched_all}
use Rattle.ring_records.specs.Admission.{fresh}
use Rattle.ring_records.specs.Emission.{sent}
use Rattle.ring_records.specs.History.{credit}
use Rattle.ring_records.specs.Member.{Member, member}
use Rattle.ring_node.specs.Open.{Open}
use Rattle.ring_node.specs.declared.flight.Flight.{Flight}
use Rattle.ring_node.specs.declared.flight.Flight.TheVariants.{Batch, Checkpoint}

-- which node it is, of how large a ring, and its capacity; the inputs that it accepted, and how many of them are
-- durable; what the area in use stands for; its open tickets, the oldest first; how many tickets it gave since it was
-- opened; and how many first inputs it has no more, as a summary stood for them when it was opened
pub record NodeView : Type 0 where
  pub member : Member
  pub inputs : List Input
  pub durable : ℕ
  pub base : Base
  pub held : List Open
  pub issued : ℕ
  pub dropped : ℕ

abbrev pub new_node : ℕ → ℕ → ℕ → NodeView
new_node me n capacity = record { member = member me n capacity; inputs = []; durable = 0; base = fresh; held = []; issued = 0; dropped = 0 }

-- its state: nothing flies
abbrev pub state_of : NodeView → NodeState
state_of v = record { inputs = v.inputs; durable = v.durable; flying = v.durable; base = v.base; checkpoint = None }

-- its durable inputs
abbrev pub durable_in : NodeView → List Input
durable_in v = take v.durable v.inputs

-- ---- requests

abbrev pub ticket_of : Option ℕ → NodeView → Request → Open
ticket_of serial v q = record { serial = serial; kept = answered_by v.member (state_of v) q }

-- after it is asked: its ticket is open
unfoldable pub asked_with : Option ℕ → Request → NodeView → NodeView
asked_with serial q v = record v { inputs = v.inputs ++ gained_by v.member (state_of v) q; held = v.held ++ ticket_of serial v q ∷ []; issued = v.issued + 1 }

-- ---- batches and checkpoints

-- node me in this state launches it
abbrev pub launched_as : Flight → ℕ → NodeState → NodeState
launched_as Batch me s = launched s
launched_as Checkpoint me s = launched_all me s

-- its state while this flies
abbrev pub flying : Flight → NodeView → NodeState
flying flight v = launched_as flight v.member.node (state_of v)

-- after it landed: it is durable
abbrev pub made_durable : Flight → NodeView → NodeView
made_durable flight v = record v { durable = (flying flight v).flying; base = launched_base (flying flight v) }

-- how many inputs are durable once a batch landed
abbrev pub flown : NodeView → ℕ
flown v = (flying Batch v).flying

-- after a batch landed; after a checkpoint did, whose summary begins the area in use
abbrev pub flushed : NodeView → NodeView
flushed v = made_durable Batch v

abbrev pub checkpointed : NodeView → NodeView
checkpointed v = made_durable Checkpoint v

-- ---- crashes

-- no more messages are credited than its durable inputs sent
abbrev pub is_credited : NodeView → Bool
is_credited v = nat_le (credit v.inputs) (length (sent v.member.node (durable_in v)))

-- after it was opened again in this state: no ticket is open
unfoldable pub reopened : NodeState → NodeView → NodeView
reopened s v = record v { inputs = s.inputs; durable = s.durable; base = s.base; held = []; issued = 0; dropped = s.base.inputs }

-- the state that a stop leaves while this flies: with what flies, or without
abbrev pub left : Flight → Bool → NodeView → NodeState
left flight keeps_flying v = left_by keeps_flying (flying flight v)
