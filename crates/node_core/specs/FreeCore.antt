-- What a core without a capacity shows, and the history that a core knows.
use Rattle.std.specs.Prelude.{ℕ, ◌≡◌, ◌+◌, ◌≤◌, ◌||◌, List, length}
use Rattle.ring_records.specs.declared.base.Base.{Base}
use Rattle.ring_records.specs.declared.input.Input.{Input}
use Rattle.ring_records.specs.declared.room.Room.{Room}
use Rattle.ring_records.specs.declared.summary.Summary.{Summary}
use Rattle.ring_records.specs.Admission.{cost, is_retire, room_of}
use Rattle.ring_records.specs.Summary.{summary}
use Rattle.node_core.specs.Core.{CoreView}

-- a node, of a ring of so many, and what it knows of its inputs
pub record FreeView : Type 0 where
  pub me : ℕ
  pub size : ℕ
  pub known : Summary

-- what room is told from behind one input more
abbrev pub taking : Input → Room → Room
taking x room = record room { taken = room.taken + cost x; waits = room.waits || is_retire x }

-- It knows what the history h of its node says, and counts room from a base, which stands for the first inputs of h: from the
-- area of its journal that is in use, in any layout and of any epoch.
pub record CoreStandsFor (core : CoreView) (base : Base) (h : List Input) : Type 0 where
  pub knows : core.known ≡ summary core.me h
  pub room : core.room ≡ room_of base h
  pub within : base.inputs ≤ length h
