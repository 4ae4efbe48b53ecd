-- A desk's state by the summary that it was opened with, and by its inputs since: that summary may be that of no history.
-- All counts begin at the opening.
use Rattle.std.specs.Prelude.{ℕ, ◌≡◌, ◌<◌, ◌≤◌, false, List, [], ◌∷◌, ◌++◌, length, take, Some, None}
use Rattle.ring_records.specs.declared.base.Base.{Base}
use Rattle.ring_records.specs.declared.input.Input.{Input}
use Rattle.ring_records.specs.declared.summary.Summary.{Summary}
use Rattle.ring_records.specs.Admission.{area_bytes, room_of, snapshot_len, newest}
use Rattle.ring_records.specs.Lawful.{HasRoom, IsNodeState}
use Rattle.ring_records.specs.Known.{Objects, after}
use Rattle.ring_records.specs.Lists.{EachAfter}
use Rattle.ring_records.specs.Member.{Member}
use Rattle.ring_records.specs.States.{NodeState, launched_base, durable_in, flown_in}
use Rattle.group_commit.specs.Desk.{DeskKept, epochs}
use Rattle.group_commit.specs.Opening.{waits_for_area}

-- nothing is against the input behind these inputs since, and it fits, with room counted from the base
pub record IsOpenSince (m : Member) (opening : Summary) (base : Base) (before : List Input) (x : Input) : Type 0 where
  pub free : Objects m.n (after m.node opening before) x None
  pub fits : base.inputs ≤ length before → HasRoom m.capacity (room_of base before) x (snapshot_len newest (after m.node opening (before ++ x ∷ [])))

-- so each of these is, behind those before it
abbrev pub IsLawfulSince : Member → Summary → Base → List Input → Type 0
IsLawfulSince m opening base l = EachAfter (IsOpenSince m opening base) [] l

-- the base stands for the opening and the first of these inputs since
pub record IsAreaOf (me : ℕ) (opening : Summary) (base : Base) (l : List Input) : Type 0 where
  pub within : base.inputs ≤ length l
  pub bytes : base.bytes ≡ area_bytes base.layout (after me opening (take base.inputs l))

-- The areas stand for the first inputs since the opening. The node may accept what is durable or flies, with room counted
-- from the area in use, and all that it accepted, with room counted from the area that is in use then. A journal may write
-- the area of a checkpoint that flies, and its snapshot fits the capacity. An area of an earlier layout takes no batch with an
-- input for which it has no record.
pub record IsKnownState (m : Member) (opening : Summary) (s : NodeState) : Type 0 where
  pub counts : IsNodeState s
  pub base : IsAreaOf m.node opening s.base (durable_in s)
  pub next : IsAreaOf m.node opening (launched_base s) s.inputs
  pub held : IsLawfulSince m opening s.base (flown_in s)
  pub all : IsLawfulSince m opening (launched_base s) s.inputs
  pub left : (b : Base) → s.checkpoint ≡ Some b → b.epoch < epochs
  pub fits : (b : Base) → s.checkpoint ≡ Some b → b.bytes ≤ m.capacity
  pub flies : s.checkpoint ≡ None → s.durable < s.flying → waits_for_area s.base (flown_in s) ≡ false

-- a desk in such a state
abbrev pub IsKnownDesk : DeskKept → Type 0
IsKnownDesk desk = IsKnownState desk.view.member desk.opening desk.view.state
