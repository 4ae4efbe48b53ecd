-- Which Stands and messages a node takes, by what is shown of its room.
use Rattle.std.specs.Prelude.{◌+◌, ◌*◌, ◌&&◌, not, nat_le, nat_lt, Bool}
use Rattle.ring_records.specs.declared.limits.TheConstants.{INPUT_BYTES}
use Rattle.commit_hub.specs.declared.look.Look.{Look}

-- A node takes a Stand that leaves the reserve, an eighth of its capacity, free behind a checkpoint of all that it accepted: the Stand
-- and the two messages of its election take an input's bytes each at most.
abbrev pub takes_stands : Look → Bool
takes_stands look = nat_le (8 * (look.snapshot + 3 * INPUT_BYTES)) (7 * look.capacity)

-- A message is taken where it leaves a sixteenth of the capacity free, or a checkpoint would make room. So Retires find a sixteenth,
-- and none of a Stand that the node has makes the snapshot longer: they take it, and a checkpoint frees as much.
abbrev pub lacks_room : Look → Bool
lacks_room look = not look.is_due && not look.frees_room && nat_lt (15 * look.capacity) (16 * (look.used + INPUT_BYTES))
