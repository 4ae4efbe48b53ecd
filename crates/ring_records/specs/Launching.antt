-- What a node becomes as it is asked, and as a checkpoint of all its inputs flies.
use Rattle.std.specs.Prelude.{ℕ, ◌+◌, List, ◌++◌, length, Some}
use Rattle.ring_records.specs.declared.base.Base.{Base}
use Rattle.ring_records.specs.declared.input.Input.{Input}
use Rattle.ring_records.specs.declared.request.Request.{Request}
use Rattle.ring_records.specs.Admission.{base_of, newest}
use Rattle.ring_records.specs.Member.{Member}
use Rattle.ring_records.specs.States.{NodeState}
use Rattle.ring_records.specs.Summary.{summary}
use Rattle.ring_records.specs.Serving.{gained_by}

-- it accepts what a request asks
abbrev pub asked : Member → NodeState → Request → NodeState
asked m s q = record s { inputs = s.inputs ++ gained_by m s q }

-- what the next area of node me stands for, behind this one, where all of h is summarised
abbrev pub next_base : ℕ → Base → List Input → Base
next_base me b h = base_of newest (b.epoch + 1) (summary me h)

-- all its inputs fly, as a checkpoint
abbrev pub launched_all : ℕ → NodeState → NodeState
launched_all me s = record s { flying = length s.inputs; checkpoint = Some (next_base me s.base s.inputs) }
