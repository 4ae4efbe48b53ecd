-- What a node does with little room.
use Rattle.std.specs.Prelude.{ℕ, ◌+◌, ◌*◌, ◌&&◌, nat_eq, nat_lt, Bool}
use Rattle.ring_records.specs.declared.limits.TheConstants.{DOORS, INPUT_BYTES}
use Rattle.commit_hub.specs.Stances.{lacks_room}
use Rattle.commit_hub.specs.declared.look.Look.{Look}

-- the bytes that a message takes at most, and a Stand at each door
abbrev pub most_at_once : ℕ
most_at_once = (1 + DOORS) * INPUT_BYTES

-- behind as many bytes more a sixteenth of the capacity would not be free
abbrev pub has_little_room : Look → Bool
has_little_room look = nat_lt (15 * look.capacity) (16 * (look.used + most_at_once))

abbrev pub is_full : Look → Bool
is_full look = look.is_open && lacks_room look

-- the next message that a full node would take
abbrev pub is_left : Look → ℕ → Bool
is_left look number = is_full look && nat_eq number look.shown.taken

abbrev pub awaits_room : Look → Bool
awaits_room look = (look.is_open && look.is_room_coming) && has_little_room look
