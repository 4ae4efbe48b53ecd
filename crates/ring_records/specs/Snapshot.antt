-- The bytes of a summary in a journal, by layout, and which bytes spell one. Numbers are big-endian.
use Rattle.std.specs.Prelude.{ℕ, ◌≡◌, ◌+◌, ◌-◌, ◌^◌, ◌<◌, ◌≤◌, Bool, nat_le, if◌then◌else◌, List, [], ◌∷◌, ◌++◌, length, Option, Some, None, is_some}
use Rattle.std.specs.FinMap as fin
use Rattle.std.specs.Int.{w16, w32, w64, to_be_bytes}
use Rattle.std.specs.List.{flat_map, count_by, Contains}
use Rattle.ring_records.specs.declared.candidate.Candidate.{Candidate}
use Rattle.ring_records.specs.declared.key.Key.{Key}
use Rattle.ring_records.specs.declared.key_state.KeyState.{KeyState}
use Rattle.ring_records.specs.declared.msg.Msg.{Msg}
use Rattle.ring_records.specs.declared.summary.Summary.{Summary}
pub use Rattle.ring_records.specs.Admission.{snapshot_len}
use Rattle.ring_records.specs.Admission.{has_floors}
use Rattle.ring_records.specs.Floors.{floor_keys}
use Rattle.ring_records.specs.FloorOf.{IsLive}
use Rattle.ring_records.specs.Message.{key_of, candidate_of}
use Rattle.ring_records.specs.Record.{key_bytes, candidate_bytes, take_kind, IsKeyInRange, IsCandidateInRange}
use Rattle.ring_records.specs.Summary.{empty}

-- ---- the bytes

-- bit 0 where the node stood, bit 1 where a leader is known
abbrev pub flags : KeyState → ℕ
flags s = (if is_some s.stood then 1 else 0) + (if is_some s.leader then 2 else 0)

abbrev pub bid_bytes : Option ℕ → List ℕ
bid_bytes None = []
bid_bytes (Some bid) = to_be_bytes w32 bid

abbrev pub leader_bytes : Option Candidate → List ℕ
leader_bytes None = []
leader_bytes (Some c) = candidate_bytes c

-- a key, its flags, the bid if it stood, the leader if one is known
unfoldable pub state_bytes : KeyState → List ℕ
state_bytes s = key_bytes s.key ++ (flags s ∷ []) ++ bid_bytes s.stood ++ leader_bytes s.leader

-- the kind, the key, the candidate
unfoldable pub msg_bytes : Msg → List ℕ
msg_bytes msg = (take_kind msg ∷ []) ++ key_bytes (key_of msg) ++ candidate_bytes (candidate_of msg)

-- the five counts, and how many keys there are
unfoldable pub counts_bytes : Summary → ℕ → List ℕ
counts_bytes s keys =
    to_be_bytes w64 s.inputs ++ to_be_bytes w64 s.taken ++ to_be_bytes w64 s.credit ++ to_be_bytes w64 s.sent
    ++ to_be_bytes w16 s.stands ++ to_be_bytes w32 keys

-- the states of the keys, in order of key
abbrev pub keys_bytes : Summary → List ℕ
keys_bytes s = flat_map state_bytes (fin.values s.keys)

-- the messages that were sent and not credited
abbrev pub window_bytes : Summary → List ℕ
window_bytes s = flat_map msg_bytes s.window

-- from layout 3 on how many groups have a floor, and these, in order of group
abbrev pub floors_bytes : ℕ → Summary → List ℕ
floors_bytes layout s = if has_floors layout then to_be_bytes w32 (fin.len s.floors) ++ flat_map key_bytes (floor_keys s.floors) else []

-- the snapshot: none in layout 1, which has no area
unfoldable pub snapshot_of : ℕ → Summary → List ℕ
snapshot_of layout s = if nat_le layout 1 then [] else counts_bytes s (fin.len s.keys) ++ keys_bytes s ++ window_bytes s ++ floors_bytes layout s

-- ---- what a snapshot is asked for: where one of these fails it is broken

-- a candidate of a ring of n
pub record IsCandidateOf (n : ℕ) (c : Candidate) : Type 0 where
  pub in_range : IsCandidateInRange c
  pub in_ring : c.node ≤ n

-- what a node of a ring of n may know of the key
pub record IsStateOf (n : ℕ) (key : Key) (s : KeyState) : Type 0 where
  pub own : s.key ≡ key
  pub named : IsKeyInRange key
  pub bid : (bid : ℕ) → s.stood ≡ Some bid → bid ≤ 999999999
  pub led : (c : Candidate) → s.leader ≡ Some c → IsCandidateOf n c

-- a message of a ring of n
pub record IsMessageOf (n : ℕ) (msg : Msg) : Type 0 where
  pub named : IsKeyInRange (key_of msg)
  pub candidate : IsCandidateOf n (candidate_of msg)

abbrev pub has_stood : KeyState → Bool
has_stood s = is_some s.stood

-- The counts fit each other and what is known of the keys, all that is named is of a ring of n, and no key is below a floor.
pub record IsSound (n : ℕ) (s : Summary) : Type 0 where
  pub inputs : s.inputs ≤ 2 ^ 56
  pub acts : s.taken + s.stands ≤ s.inputs
  pub sent : s.sent ≤ s.inputs
  pub credit : s.credit ≤ s.sent
  pub window : length s.window ≡ s.sent - s.credit
  pub few : s.stands < 2 ^ 16
  pub stands : s.stands ≡ count_by has_stood (fin.values s.keys)
  pub states : (key : Key) (state : KeyState) → fin.get s.keys key ≡ Some state → IsStateOf n key state
  pub messages : (msg : Msg) → Contains s.window msg → IsMessageOf n msg
  pub floors : (group : List ℕ) (floor : ℕ) → fin.get s.floors group ≡ Some floor → IsKeyInRange (record { group = group; term = floor })
  pub live : (key : Key) (state : KeyState) → fin.get s.keys key ≡ Some state → IsLive s.floors key

-- the bytes are the snapshot of s in this layout, which a node of a ring of n may have
pub record Spells (layout n : ℕ) (bytes : List ℕ) (s : Summary) : Type 0 where
  pub is : bytes ≡ snapshot_of layout s
  pub sound : IsSound n s
  pub few_keys : fin.len s.keys < 2 ^ 32
  pub few_floors : fin.len s.floors < 2 ^ 32
  pub none : layout ≤ 2 → s.floors ≡ fin.empty
  pub plain : layout ≤ 1 → s ≡ empty
