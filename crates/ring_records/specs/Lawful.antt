-- Which histories are lawful: each input was admitted after those before it, with room counted from what an area stands for.
use Rattle.std.specs.Prelude.{ℕ, true, false, ◌≡◌, ◌+◌, ◌<◌, ◌≤◌, List, [], ◌∷◌, ◌++◌, length, Some, take}
use Rattle.ring_records.specs.declared.base.Base.{Base}
use Rattle.ring_records.specs.declared.input.Input.{Input}
use Rattle.ring_records.specs.declared.room.Room.{Room}
use Rattle.ring_records.specs.Lists.{EachAfter}
use Rattle.ring_records.specs.Summary.{summary}
use Rattle.ring_records.specs.Admission.{snapshot_len, newest, epochs, cost, room_of, must_renew, base_of}
use Rattle.ring_records.specs.Allowed.{IsAllowed}
use Rattle.ring_records.specs.Member.{Member}
use Rattle.ring_records.specs.States.{NodeState, launched_base, durable_in, flown_in}

-- the first inputs of h are those that the base stands for
pub record IsBaseOf (me : ℕ) (base : Base) (h : List Input) : Type 0 where
  pub within : base.inputs ≤ length h
  pub is : base ≡ base_of base.layout base.epoch (summary me (take base.inputs h))

-- the input fits, behind which a snapshot has so many bytes
pub record HasRoom (capacity : ℕ) (room : Room) (x : Input) (renewed : ℕ) : Type 0 where
  pub plain : must_renew room x ≡ false → room.taken + cost x ≤ capacity
  pub epoch : must_renew room x ≡ true → room.epoch + 1 < epochs
  pub short : must_renew room x ≡ true → renewed ≤ capacity

-- it fits behind h; of an input that the base stands for nothing is asked
unfoldable pub Fits : ℕ → ℕ → Base → List Input → Input → Type 0
Fits me capacity base h x = base.inputs ≤ length h → HasRoom capacity (room_of base h) x (snapshot_len newest (summary me (h ++ x ∷ [])))

pub record IsAdmitted (me n capacity : ℕ) (base : Base) (h : List Input) (x : Input) : Type 0 where
  pub allowed : IsAllowed me n h x
  pub fits : Fits me capacity base h x

-- each input is admitted after those before it
unfoldable pub IsLawful : ℕ → ℕ → ℕ → Base → List Input → Type 0
IsLawful me n capacity base h = EachAfter (IsAdmitted me n capacity base) [] h

-- the area in use stands for durable inputs, and a checkpoint that flies for all that are durable or fly
pub record IsNodeState (s : NodeState) : Type 0 where
  pub durable : s.durable ≤ s.flying
  pub flying : s.flying ≤ length s.inputs
  pub based : s.base.inputs ≤ s.durable
  pub checkpointed : (b : Base) → s.checkpoint ≡ Some b → b.inputs ≡ s.flying

-- The areas stand for its first inputs. It may accept what is durable or flies, with room counted from the area in use, and
-- all that it accepted, with room counted from the area that is in use then.
pub record IsLawfulState (m : Member) (s : NodeState) : Type 0 where
  pub counts : IsNodeState s
  pub base : IsBaseOf m.node s.base (durable_in s)
  pub next : IsBaseOf m.node (launched_base s) s.inputs
  pub held : IsLawful m.node m.n m.capacity s.base (flown_in s)
  pub all : IsLawful m.node m.n m.capacity (launched_base s) s.inputs
