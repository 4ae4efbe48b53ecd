-- How the length of a snapshot changes with an input.
use Rattle.std.specs.Prelude.{ℕ, ◌+◌, ◌-◌, if◌then◌else◌, take, Option, Some, None, is_some}
use Rattle.std.specs.FinMap as map
use Rattle.std.specs.List.{sum_by}
use Rattle.ring_records.specs.declared.input.Input.{Input}
use Rattle.ring_records.specs.declared.input.Input.TheVariants.{Stand, Take, Acked, Retire}
use Rattle.ring_records.specs.declared.key.Key.{Key}
use Rattle.ring_records.specs.declared.key_state.KeyState.{KeyState}
use Rattle.ring_records.specs.declared.msg.Msg.{Msg}
use Rattle.ring_records.specs.declared.msg.Msg.TheVariants.{Token}
use Rattle.ring_records.specs.declared.summary.Summary.{Summary}
use Rattle.ring_records.specs.Admission.{state_len, msg_len, floor_len}
use Rattle.ring_records.specs.FloorOf.{is_below_floor}
use Rattle.ring_records.specs.Known.{drops, heard, known_of, sends}
use Rattle.ring_records.specs.Message.{key_of}

-- the bytes of the state of a key, where one is known
abbrev pub len_of : Option KeyState → ℕ
len_of None = 0
len_of (Some s) = state_len s

-- the bytes of a message that is sent
abbrev pub len_on : Option Msg → ℕ
len_on None = 0
len_on (Some msg) = msg_len msg

-- the bytes of the state of a key that the node stands for, and of its token
abbrev pub stood_len : ℕ → Key → ℕ → ℕ
stood_len me key bid = state_len (record { key = key; stood = Some bid; leader = None }) + msg_len (Token key (record { bid = bid; node = me }))

-- The bytes that the input brings into the snapshot: a state that is new or takes the place of another, what is sent, and the
-- floor of a group that had none.
abbrev pub more : ℕ → Summary → Input → ℕ
more me s (Stand key bid) = stood_len me key bid
more me s (Take msg_no msg) = (if is_below_floor s.floors (key_of msg) then 0 else state_len (heard me s msg)) + len_on (sends me s (Take msg_no msg))
more me s (Acked upto) = 0
more me s (Retire group new) = if is_some (map.get s.floors group) then 0 else floor_len (record { group = group; term = new })

-- and those that it takes out: the state that is replaced, the messages that are credited, the states that are dropped
abbrev pub less : Summary → Input → ℕ
less s (Stand key bid) = 0
less s (Take msg_no msg) = if is_below_floor s.floors (key_of msg) then 0 else len_of (known_of s (key_of msg))
less s (Acked upto) = sum_by msg_len (take (upto - s.credit) s.window)
less s (Retire group new) = sum_by state_len (map.values (map.retain_keys s.keys (drops group new)))
