-- What the core of a node is behind its history.
use Rattle.std.specs.Prelude.{◌≡◌, ◌≤◌, List, [], length}
use Rattle.ring_records.specs.declared.base.Base.{Base}
use Rattle.ring_records.specs.declared.input.Input.{Input}
use Rattle.ring_records.specs.Admission.{room_of}
use Rattle.ring_records.specs.Allowed.{IsAllowed}
use Rattle.ring_records.specs.Lists.{EachAfter}
use Rattle.ring_records.specs.Summary.{summary}
use Rattle.node_core.specs.Core.{CoreView}
use Rattle.ring_records.specs.declared.summary.Summary.{Summary}
use Rattle.ring_records.specs.Known.{after}
use Rattle.ring_records.specs.Member.{Member}
use Rattle.ring_records.specs.States.{NodeState, launched_base}

-- it knows what the history h of its node says, each input of which was allowed, with room counted from the base
pub record IsOf (core : CoreView) (base : Base) (h : List Input) : Type 0 where
  pub knows : core.known ≡ summary core.me h
  pub room : core.room ≡ room_of base h
  pub within : base.inputs ≤ length h
  pub allowed : EachAfter (IsAllowed core.me core.size) [] h

-- the core of a node in this state
abbrev pub core_in : Member → Summary → NodeState → CoreView
core_in m opening s = record {
  me = m.node;
  size = m.n;
  capacity = m.capacity;
  known = after m.node opening s.inputs;
  room = room_of (launched_base s) s.inputs;
}
