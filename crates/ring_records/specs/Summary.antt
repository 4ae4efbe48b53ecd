-- What a node must know of its history to go on, in place of the inputs themselves.
use Rattle.std.specs.Prelude.{ℕ, List, [], map, not, length, drop, Option, Some, None}
use Rattle.std.specs.FinMap as fin
use Rattle.std.specs.List.{filter, filter_map}
use Rattle.ring_records.specs.declared.input.Input.{Input}
use Rattle.ring_records.specs.declared.input.Input.TheVariants.{Stand, Take, Acked, Retire}
use Rattle.ring_records.specs.declared.key.Key.{Key}
use Rattle.ring_records.specs.declared.key_state.KeyState.{KeyState}
use Rattle.ring_records.specs.declared.summary.Summary.{Summary}
use Rattle.ring_records.specs.Emission.{sent}
use Rattle.ring_records.specs.History.{floor, is_retired, stood, taken, credit, stands}
use Rattle.ring_records.specs.KeyOrder.{group_cmp, key_cmp}
use Rattle.ring_records.specs.KeyStates.{keyed}
use Rattle.ring_records.specs.Leader.{leader}
use Rattle.ring_records.specs.Message.{key_of}

-- the key that a Stand or a Take names
unfoldable pub named : Input → Option Key
named (Stand key bid) = Some key
named (Take msg_no msg) = Some (key_of msg)
named (Acked upto) = None
named (Retire group floor) = None

-- the group whose floor a Retire sets
unfoldable pub retired_group : Input → Option (List ℕ)
retired_group (Stand key bid) = None
retired_group (Take msg_no msg) = None
retired_group (Acked upto) = None
retired_group (Retire group floor) = Some group

-- what h says of the key: the bid of its Stand, and its leader
abbrev pub state_of : ℕ → List Input → Key → KeyState
state_of me h key = record { key = key; stood = stood h key; leader = leader me h key }

-- the keys that an input of h names and that are not retired
abbrev pub listed : List Input → List Key
listed h = filter (λ key. not (is_retired h key)) (filter_map named h)

-- what h says of each of them
unfoldable pub key_states : ℕ → List Input → fin.FinMap key_cmp KeyState
key_states me h = keyed (map (state_of me h) (listed h))

-- the floor of each group for which h has a Retire
unfoldable pub floors_in : List Input → fin.FinMap group_cmp ℕ
floors_in h = fin.from_entries (map (λ group. (group, floor h group)) (filter_map retired_group h))

-- The summary of h: its counts, the states of its keys, the messages that were sent and not credited, and the floors.
abbrev pub summary : ℕ → List Input → Summary
summary me h = record {
  inputs = length h;
  taken = length (taken h);
  credit = credit h;
  sent = length (sent me h);
  stands = stands h;
  keys = key_states me h;
  window = drop (credit h) (sent me h);
  floors = floors_in h;
}

-- the summary of a node that accepted no input yet
abbrev pub empty : Summary
empty = record { inputs = 0; taken = 0; credit = 0; sent = 0; stands = 0; keys = fin.empty; window = []; floors = fin.empty }
