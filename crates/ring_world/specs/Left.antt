-- What is left of a world by an event that is refused.
use Rattle.std.specs.Prelude.{◌≡◌, Bool, true, MatchBool}
use Rattle.ring_world.specs.Ring.{RingView}
use Rattle.ring_world.specs.State.{State}

-- the same nodes, as eager, with as much told
abbrev pub IsSameRing : RingView → RingView → Type 0
IsSameRing w v = (v.size ≡ w.size) × (v.capacity ≡ w.capacity) × (v.eager ≡ w.eager) × (v.told ≡ w.told)

-- the same nodes and ticket numbers, as eager, with as much told
abbrev pub IsSameState : State → State → Type 0
IsSameState s t = IsSameRing s.ring t.ring × (t.tickets ≡ s.tickets)

-- it failed, with as much told, and nothing else is left of what happened
pub record IsEnded (s t : State) : Type 0 where
  pub failed : t.ring.failed ≡ true
  pub told : t.ring.events ≡ t.ring.told
  pub same : IsSameRing s.ring t.ring

-- What want of memory makes of it: it stays as it is, or it fails.
abbrev pub IsLeft : Bool → State → State → Type 0
IsLeft lasting s t = MatchBool lasting (t ≡ s) (IsEnded s t)
