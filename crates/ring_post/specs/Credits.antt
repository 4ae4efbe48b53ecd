-- When a node is told of its successor's credits.
use Rattle.std.specs.Prelude.{ℕ, ◌-◌, ◌*◌, nat_le, nat_lt, Bool, ◌&&◌, ◌||◌, if◌then◌else◌, Option, Some, None}
use Rattle.commit_hub.specs.declared.look.Look.{Look}
use Rattle.ring_post.specs.Room.{has_little_room}
use Rattle.ring_post.specs.declared.credits.Credits.{Credits}

-- the greatest credit that was heard, where the node was told of less
abbrev pub held_of : Credits → Option ℕ
held_of credits = if nat_lt credits.told credits.heard then Some credits.heard else None

-- so many messages are credited of which it was not told: 64, or as many as take more than a sixteenth of its capacity in a snapshot,
-- 27 bytes each; or any, where there is little room
abbrev pub are_many : Look → ℕ → Bool
are_many look held = nat_le 64 held || (nat_lt look.capacity (16 * 27 * held) || has_little_room look)

abbrev pub are_due : Credits → Look → Bool
are_due credits look = nat_lt credits.told credits.heard && are_many look (credits.heard - credits.told)
