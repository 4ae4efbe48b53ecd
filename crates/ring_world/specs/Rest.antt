-- In an eager ring nothing waits between the steps of a world.
use Rattle.std.specs.Prelude.{ℕ, ◌≡◌, true, false, length}
use Rattle.ring_world.specs.Ring.{RingView, node_at}

-- every input of each node is durable
unfoldable pub IsAllDurable : RingView → Type 0
IsAllDurable w = (i : ℕ) → (node_at w i).durable ≡ length (node_at w i).inputs

-- so it is in an eager ring, while that works
abbrev pub IsAtRest : RingView → Type 0
IsAtRest w = w.eager ≡ true → w.failed ≡ false → IsAllDurable w
