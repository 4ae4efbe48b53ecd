-- What a world is seen as.
use Rattle.std.specs.Prelude.{ℕ, Bool}
use Rattle.ring_world.specs.Ring.{RingView, new_ring}

-- its ring and what happened to it, and how many ticket numbers are taken
pub record State : Type 0 where
  pub ring : RingView
  pub tickets : ℕ

-- a ring in which nothing has happened
abbrev pub opened : ℕ → Bool → ℕ → State
opened size eager capacity = record { ring = new_ring size eager capacity; tickets = 0 }
