-- How many of a ring's open tickets have a number.
use Rattle.std.specs.Prelude.{ℕ, ◌≡◌, ◌≤◌, false, List, length}
use Rattle.std.specs.List.{filter_map}
use Rattle.ring_node.specs.Open.{Open, serial_of}
use Rattle.ring_world.specs.Ring.{RingView, held_at}

-- how many of the tickets have one
abbrev pub numbered : List Open → ℕ
numbered held = length (filter_map serial_of held)

-- at each node no more than so many
unfoldable pub IsBounded : RingView → ℕ → Type 0
IsBounded w tickets = (i : ℕ) → numbered (held_at w i) ≤ tickets

-- while the ring works, no more than the numbers that are taken
abbrev pub IsCounted : RingView → ℕ → Type 0
IsCounted w tickets = w.failed ≡ false → IsBounded w tickets
