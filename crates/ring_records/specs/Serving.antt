-- What a node with a capacity shows, accepts and answers in its state.
use Rattle.std.specs.Prelude.{ℕ, List, length}
use Rattle.ring_records.specs.declared.input.Input.{Input}
use Rattle.ring_records.specs.declared.request.Request.{Request}
use Rattle.ring_records.specs.declared.shown.Shown.{Shown}
use Rattle.ring_records.specs.Admission.{shortage}
use Rattle.ring_records.specs.Answer.{Answered, gained, answered}
use Rattle.ring_records.specs.Emission.{sent}
use Rattle.ring_records.specs.History.{taken, credit}
use Rattle.ring_records.specs.Member.{Member}
use Rattle.ring_records.specs.States.{NodeState, launched_base}

-- what node me shows in this state
abbrev pub shown_in : ℕ → NodeState → Shown
shown_in me s = record { inputs = length s.inputs; durable = s.durable; sent = length (sent me s.inputs); taken = length (taken s.inputs); credit = credit s.inputs }

-- the inputs, one or none, that it gains by a request
abbrev pub gained_by : Member → NodeState → Request → List Input
gained_by m s q = gained m.node m.n (shortage m.node m.capacity (launched_base s)) s.inputs q

-- the request with its answer
abbrev pub answered_by : Member → NodeState → Request → Answered
answered_by m s q = answered m.node m.n (shortage m.node m.capacity (launched_base s)) s.inputs q
