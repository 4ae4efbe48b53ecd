-- What a node does by what it knows: the rules of Leader, Emission and Admission, told by a summary in place of a history.
-- A summary that is read from a journal may be that of no history, and is judged by these.
use Rattle.std.specs.Prelude.{ℕ, Bool, ◌≡◌, ◌+◌, ◌-◌, ◌==◌, ◌&&◌, not, nat_lt, nat_le, ◌^◌, if◌then◌else◌, List, [], ◌++◌, length, drop, Option, Some, None, is_none, is_some}
use Rattle.std.specs.FinMap as fin
use Rattle.std.specs.List.{cons_option, count_by, fold}
use Rattle.std.specs.Str.{bytes_eq}
use Rattle.ring_records.specs.declared.candidate.Candidate.{Candidate}
use Rattle.ring_records.specs.declared.input.Input.{Input}
use Rattle.ring_records.specs.declared.input.Input.TheVariants.{Stand, Take, Acked, Retire}
use Rattle.ring_records.specs.declared.key.Key.{Key}
use Rattle.ring_records.specs.declared.key_state.KeyState.{KeyState}
use Rattle.ring_records.specs.declared.limits.TheConstants.{STANDS}
use Rattle.ring_records.specs.declared.msg.Msg.{Msg}
use Rattle.ring_records.specs.declared.msg.Msg.TheVariants.{Token, Elected}
use Rattle.ring_records.specs.declared.refusal.Refusal.{Refusal}
use Rattle.ring_records.specs.declared.refusal.Refusal.TheVariants as refused
use Rattle.ring_records.specs.declared.summary.Summary.{Summary}
use Rattle.ring_records.specs.Objection.{where_so, already, stale, out_of_turn}
use Rattle.ring_records.specs.Emission.{is_below}
use Rattle.ring_records.specs.FloorOf.{floor_of, is_below_floor}
use Rattle.ring_records.specs.Leader.{is_bid, term_of}
use Rattle.ring_records.specs.Latest.{IsLatest}
use Rattle.ring_records.specs.Lists.{or_else}
use Rattle.ring_records.specs.Message.{key_of, candidate_of}
use Rattle.ring_records.specs.Snapshot.{has_stood}

-- ---- of one key: its own bid, and the leader

-- what the node sends on when it takes the message
unfoldable pub passed : ℕ → Option ℕ → Option Candidate → Msg → Option Msg
passed me stood leader (Token key c) =
    if c.node == me
    then (if is_bid stood c.bid && is_none leader then Some (Elected key c) else None)
    else (if is_below stood me c then Some (Token key c) else None)
passed me stood leader (Elected key c) = if not (c.node == me) && is_none leader then Some (Elected key c) else None

-- the candidate that the message shows to lead
unfoldable pub shown : ℕ → Option ℕ → Msg → Option Candidate
shown me stood (Token key c) = if (c.node == me) && is_bid stood c.bid then Some c else None
shown me stood (Elected key c) = if not (c.node == me) then Some c else None

-- ---- of all

abbrev pub stood_of : Option KeyState → Option ℕ
stood_of None = None
stood_of (Some s) = s.stood

abbrev pub leader_of : Option KeyState → Option Candidate
leader_of None = None
leader_of (Some s) = s.leader

abbrev pub known_of : Summary → Key → Option KeyState
known_of s key = fin.get s.keys key

-- the leaders of a group's terms
abbrev pub leads_in : Summary → List ℕ → ℕ → Option Candidate
leads_in s group term = leader_of (known_of s (record { group = group; term = term }))

-- a key below the floor of its group is not stood for
abbrev pub retired_in : Summary → Key → Option Refusal
retired_in s key = where_so (is_below_floor s.floors key) (refused.Retired (floor_of s.floors key.group))

-- what the node sends when it accepts the input: below a floor nothing is passed on
abbrev pub sends : ℕ → Summary → Input → Option Msg
sends me s (Stand key bid) = Some (Token key (record { bid = bid; node = me }))
sends me s (Take msg_no msg) = if is_below_floor s.floors (key_of msg) then None else passed me (stood_of (known_of s (key_of msg))) (leader_of (known_of s (key_of msg))) msg
sends me s (Acked upto) = None
sends me s (Retire group new) = None

-- one more input, that sends this
abbrev pub sending : Option Msg → Summary → Summary
sending on s = record s { inputs = s.inputs + 1; sent = s.sent + length (cons_option on []); window = s.window ++ cons_option on [] }

-- what it knows of the key of a message once it has taken it
abbrev pub heard : ℕ → Summary → Msg → KeyState
heard me s msg = record {
  key = key_of msg;
  stood = stood_of (known_of s (key_of msg));
  leader = or_else (leader_of (known_of s (key_of msg))) (shown me (stood_of (known_of s (key_of msg))) msg);
}

-- a floor of the group retires the key
abbrev pub drops : List ℕ → ℕ → Key → Bool
drops group new key = bytes_eq key.group group && nat_lt key.term new

-- What it knows once it has accepted the input. A message below a floor leaves the keys as they are; a new floor drops the
-- keys below it, with the Stands for them.
abbrev pub stepped : ℕ → Summary → Input → Summary
stepped me s (Stand key bid) = sending (sends me s (Stand key bid)) (record s {
  stands = s.stands + 1;
  keys = fin.insert s.keys key (record { key = key; stood = Some bid; leader = leader_of (known_of s key) });
})
stepped me s (Take msg_no msg) = sending (sends me s (Take msg_no msg)) (record s {
  taken = s.taken + 1;
  keys = if is_below_floor s.floors (key_of msg) then s.keys else fin.insert s.keys (key_of msg) (heard me s msg);
})
stepped me s (Acked upto) = record s { inputs = s.inputs + 1; credit = upto; window = drop (upto - s.credit) s.window }
stepped me s (Retire group new) = record s {
  inputs = s.inputs + 1;
  stands = s.stands - count_by has_stood (fin.values (fin.retain_keys s.keys (drops group new)));
  keys = fin.retain_keys s.keys (λ key. not (drops group new key));
  floors = fin.insert s.floors group new;
}

-- what it knows once it has accepted these inputs
abbrev pub after : ℕ → Summary → List Input → Summary
after me s l = fold (stepped me) s l

-- what it has against the input; of the latest leader of a group it knows that it is the one of the keys
abbrev pub Objects : ℕ → Summary → Input → Option Refusal → Type 0
Objects n s (Stand key bid) o = (led : Option (ℕ × Candidate)) × IsLatest (leads_in s key.group) led
    × (o ≡ or_else (retired_in s key)
    (or_else (or_else (already (stood_of (known_of s key))) (where_so (is_some (known_of s key)) refused.Late))
    (or_else (stale key.term led)
    (or_else (where_so (nat_le STANDS s.stands) refused.Limit)
    (where_so (nat_le (2 ^ 56) s.inputs) refused.Limit)))))
Objects n s (Take msg_no msg) o =
    o ≡ or_else (where_so (nat_lt n (candidate_of msg).node) refused.BadNumber)
    (or_else (out_of_turn s.taken msg_no)
    (where_so (nat_le (2 ^ 56) s.inputs) refused.Limit))
Objects n s (Acked upto) o =
    o ≡ or_else (where_so (nat_le upto s.credit) (refused.Old s.credit))
    (or_else (where_so (nat_lt s.sent upto) (refused.AckAhead s.sent))
    (where_so (nat_le (2 ^ 56) s.inputs) refused.Limit))
Objects n s (Retire group new) o = (led : Option (ℕ × Candidate)) × IsLatest (leads_in s group) led
    × (o ≡ or_else (where_so (nat_le new (floor_of s.floors group)) (refused.Retired (floor_of s.floors group)))
    (or_else (where_so (nat_lt (term_of led) new) refused.Undecided)
    (where_so (nat_le (2 ^ 56) s.inputs) refused.Limit)))
