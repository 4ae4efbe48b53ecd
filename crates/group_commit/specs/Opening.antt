-- What a desk knows: by the summary that it was opened with, and by its inputs since. That summary may be that of no history.
use Rattle.std.specs.Prelude.{ℕ, ◌≡◌, ◌+◌, ◌||◌, ◌&&◌, nat_lt, Bool, List, [], take, drop, slice_get, Some, None}
use Rattle.std.specs.List.{list_any}
use Rattle.ring_records.specs.declared.base.Base.{Base}
use Rattle.ring_records.specs.declared.input.Input.{Input}
use Rattle.ring_records.specs.declared.refusal.Refusal.{Refusal}
use Rattle.ring_records.specs.declared.refusal.Refusal.TheVariants as refused
use Rattle.ring_records.specs.declared.room.Room.{Room}
use Rattle.ring_records.specs.declared.summary.Summary.{Summary}
use Rattle.ring_records.specs.Admission.{costs_of, is_retire, newest, room_of}
use Rattle.ring_records.specs.Known.{after}
use Rattle.ring_records.specs.Lists.{EachAfter}
use Rattle.ring_records.specs.Member.{Member}
use Rattle.node_core.specs.Core.{CoreView, Refuses}

-- the core of a node that knows this, for which the area stands
abbrev pub opened_core : Member → Summary → Base → CoreView
opened_core m opening area = record { me = m.node; size = m.n; capacity = m.capacity; known = opening; room = room_of area [] }

-- what room is told from behind these inputs more
abbrev pub room_past : Room → List Input → Room
room_past room l = record room { taken = room.taken + costs_of l; waits = room.waits || list_any is_retire l }

-- the core once it has accepted these inputs
abbrev pub core_after : CoreView → List Input → CoreView
core_after core l = record core { known = after core.me core.known l; room = room_past core.room l }

-- behind what the base stands for one of these inputs waits for an area of the newest layout, and the base's is of an earlier one
abbrev pub waits_for_area : Base → List Input → Bool
waits_for_area base l = nat_lt base.layout newest && list_any is_retire (drop base.inputs l)

-- it refuses the input for nothing, once it has accepted those before it
abbrev pub IsOpenTo : CoreView → List Input → Input → Type 0
IsOpenTo core before x = Refuses (core_after core before) x None

-- it may accept these inputs, in this order
abbrev pub IsKnownLawful : CoreView → List Input → Type 0
IsKnownLawful core l = EachAfter (IsOpenTo core) [] l

-- the refusal names the first of these inputs that it refuses after those before it
pub record IsUnlawful (core : CoreView) (inputs : List Input) (why : Refusal) : Type 0 where
  pub index : ℕ
  pub is : why ≡ refused.Unlawful index
  pub before : IsKnownLawful core (take index inputs)
  pub input : Input
  pub there : slice_get inputs index ≡ Some input
  pub refused_for : Refusal
  pub because : Refuses (core_after core (take index inputs)) input (Some refused_for)
