-- The state of a durable node, with what the areas of its journal stand for, and what may happen to it.
use Rattle.std.specs.Prelude.{ℕ, ◌+◌, ◌-◌, min, Bool, ◌&&◌, if◌then◌else◌, nat_eq, List, length, take, drop, Option, None, unwrap_or, is_none}
use Rattle.ring_records.specs.declared.base.Base.{Base}
use Rattle.ring_records.specs.declared.input.Input.{Input}
use Rattle.ring_records.specs.declared.limits.TheConstants.{BATCH_INPUTS}

-- ---- the state

-- The inputs that it accepted; how many of them are durable; how many are durable or fly; what the area in use stands for;
-- and, where a checkpoint flies, what its area stands for
pub record NodeState : Type 0 where
  pub inputs : List Input
  pub durable : ℕ
  pub flying : ℕ
  pub base : Base
  pub checkpoint : Option Base

-- what the area stands for that is in use once all that flies is durable: room is counted from it
abbrev pub launched_base : NodeState → Base
launched_base s = unwrap_or s.checkpoint s.base

-- nothing flies: no input, and no checkpoint
abbrev pub is_idle : NodeState → Bool
is_idle s = nat_eq s.flying s.durable && is_none s.checkpoint

-- its durable inputs
abbrev pub durable_in : NodeState → List Input
durable_in s = take s.durable s.inputs

-- its inputs that are durable or fly
abbrev pub flown_in : NodeState → List Input
flown_in s = take s.flying s.inputs

-- those that fly
abbrev pub flying_in : NodeState → List Input
flying_in s = take (s.flying - s.durable) (drop s.durable s.inputs)

-- ---- what may happen

-- it is opened with these inputs, all of them durable
abbrev pub opened : Base → List Input → NodeState
opened b l = record { inputs = l; durable = length l; flying = length l; base = b; checkpoint = None }

-- the first waiting inputs fly, as many as a batch may have
abbrev pub launched : NodeState → NodeState
launched s = record s { flying = min (s.durable + BATCH_INPUTS) (length s.inputs) }

-- what flies is durable
abbrev pub landed : NodeState → NodeState
landed s = record s { durable = s.flying; base = launched_base s; checkpoint = None }

-- a stop leaves it so: what flies is kept, or it is not
abbrev pub left_by : Bool → NodeState → NodeState
left_by keeps_flying s = if keeps_flying then opened (launched_base s) (flown_in s) else opened s.base (durable_in s)
