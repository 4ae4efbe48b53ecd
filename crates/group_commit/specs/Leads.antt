-- The decisions that a node knows, and the leader for a key.
use Rattle.std.specs.Prelude.{if◌then◌else◌, List, Option, None}
use Rattle.std.specs.FinMap as fin
use Rattle.std.specs.List.{filter_map}
use Rattle.std.specs.Option.{option_map}
use Rattle.ring_records.specs.declared.candidate.Candidate.{Candidate}
use Rattle.ring_records.specs.declared.decision.Decision.{Decision}
use Rattle.ring_records.specs.declared.key.Key.{Key}
use Rattle.ring_records.specs.declared.key_state.KeyState.{KeyState}
use Rattle.ring_records.specs.declared.summary.Summary.{Summary}
use Rattle.ring_records.specs.FloorOf.{is_below_floor}
use Rattle.ring_records.specs.Known.{known_of, leader_of}

-- the decision of a key with a leader
abbrev pub led : KeyState → Option Decision
led state = option_map (λ c. record { key = state.key; leader = c }) state.leader

-- those that a node knows, in order of key
abbrev pub leaders_in : Summary → List Decision
leaders_in s = filter_map led (fin.values s.keys)

-- the leader for the key that it knows; none where the key is below the floor of its group
abbrev pub leader_by : Summary → Key → Option Candidate
leader_by s key = if is_below_floor s.floors key then None else leader_of (known_of s key)
