-- A snapshot that is taken part after part: what was taken, and what stands at the front of the bytes behind it.
use Rattle.std.specs.Prelude.{ℕ, true, false, ◌≡◌, ◌-◌, ◌*◌, ◌^◌, ◌<◌, ◌≤◌, ◌⊎◌, min, nat_lt, Bool, List, [], ◌∷◌, ◌++◌, length, take, Option, Some, None, vec_len, vec_capacity}
use Rattle.std.specs.Int.{w16, w32, w64, to_be_bytes}
use Rattle.std.specs.List.{flat_map, AllByRecursion}
use Rattle.ring_records.specs.declared.key.Key.{Key}
use Rattle.ring_records.specs.declared.key_state.KeyState.{KeyState}
use Rattle.ring_records.specs.declared.msg.Msg.{Msg}
use Rattle.ring_records.specs.declared.snapshot_read.Counts.{Counts}
use Rattle.ring_records.specs.declared.summary.Summary.{Summary}
use Rattle.ring_records.specs.declared.summary_reader.Taken.{Taken}
use Rattle.ring_records.specs.Admission.{has_floors}
use Rattle.ring_records.specs.Record.{key_bytes, IsKeyInRange}
use Rattle.ring_records.specs.Snapshot.{state_bytes, msg_bytes, IsStateOf, IsMessageOf, Spells}
use Rattle.ring_records.specs.SnapshotRead.{AreFitting}

-- What a reader shows: the ring's size, the layout, the bytes that were taken, and for how many more there is room.
pub record SnapshotPart : Type 0 where
  pub n : ℕ
  pub layout : ℕ
  pub taken : List ℕ
  pub room : ℕ

-- For so many bytes there is room: a state takes 6 of them at least, a message 11, and a floor 5.
abbrev pub room_for : ℕ → ℕ → ℕ → ℕ → ℕ → ℕ → ℕ
room_for states states_cap messages messages_cap floors floors_cap = min (6 * (states_cap - states)) (min (11 * (messages_cap - messages)) (5 * (floors_cap - floors)))

-- The bytes are 38 or more, or all that there are, and a snapshot that begins with those taken does not go on with them.
-- None is asked whether it ends there.
abbrev pub NoMore : ℕ → ℕ → List ℕ → List ℕ → Type 0
NoMore layout n taken bytes = (more : List ℕ) (s : Summary) → (38 ≤ length bytes) ⊎ (more ≡ []) → 1 ≤ length bytes → Spells layout n (taken ++ (bytes ++ more)) s → ⊥

-- ---- what was read

unfoldable pub number_bytes : Counts → List ℕ
number_bytes k = to_be_bytes w64 k.inputs ++ to_be_bytes w64 k.taken ++ to_be_bytes w64 k.credit ++ to_be_bytes w64 k.sent ++ to_be_bytes w16 k.stands ++ to_be_bytes w32 k.keys

abbrev pub parts_bytes : Counts → List KeyState → List Msg → List ℕ
parts_bytes k states messages = number_bytes k ++ (flat_map state_bytes states ++ flat_map msg_bytes messages)

-- behind the messages the number of floors, once it was taken, and these
abbrev pub floors_taken : Option ℕ → List Key → List ℕ
floors_taken None floors = []
floors_taken (Some count) floors = to_be_bytes w32 count ++ flat_map key_bytes floors

-- the parts that were taken: states, messages, the number of floors, and floors
pub record Parts : Type 0 where
  pub states : List KeyState
  pub messages : List Msg
  pub count : Option ℕ
  pub floors : List Key

abbrev pub shown : Taken → Parts
shown t = record { states = t.states.items; messages = t.messages.items; count = t.count; floors = t.floors.items }

abbrev pub room_of : Taken → ℕ
room_of t = room_for (vec_len t.states) (vec_capacity t.states) (vec_len t.messages) (vec_capacity t.messages) (vec_len t.floors) (vec_capacity t.floors)

abbrev pub taken_of : Option Counts → Parts → List ℕ
taken_of None p = []
taken_of (Some k) p = parts_bytes k p.states p.messages ++ floors_taken p.count p.floors

-- counts as bytes may have them
pub record AreCounts (k : Counts) : Type 0 where
  pub inputs : k.inputs < 2 ^ 64
  pub taken : k.taken < 2 ^ 64
  pub credit_range : k.credit < 2 ^ 64
  pub sent : k.sent < 2 ^ 64
  pub stands : k.stands < 2 ^ 16
  pub keys : k.keys < 2 ^ 32
  pub credit : k.credit ≤ k.sent

abbrev pub IsOwnStateOf : ℕ → KeyState → Type 0
IsOwnStateOf n s = IsStateOf n s.key s

-- all states and messages are there
abbrev pub IsWindowRead : Counts → Parts → Type 0
IsWindowRead k p = (length p.states ≡ k.keys) × (length p.messages ≡ k.sent - k.credit)

-- no floors before their number, and not more than it says
abbrev pub HasFloors : ℕ → Counts → Parts → Option ℕ → Type 0
HasFloors layout k p None = p.floors ≡ []
HasFloors layout k p (Some count) = (2 < layout) × (count < 2 ^ 32) × (length p.floors ≤ count) × IsWindowRead k p

-- not more than the counts say, messages behind all states alone, and the number of floors behind all of them
pub record AreRead (layout n : ℕ) (k : Counts) (p : Parts) : Type 0 where
  pub newer : 2 ≤ layout
  pub counts : AreCounts k
  pub states_of : AllByRecursion (IsOwnStateOf n) p.states
  pub messages_of : AllByRecursion (IsMessageOf n) p.messages
  pub floors_of : AllByRecursion IsKeyInRange p.floors
  pub keys : length p.states ≤ k.keys
  pub first : length p.states < k.keys → p.messages ≡ []
  pub window : length p.messages ≤ k.sent - k.credit
  pub end : HasFloors layout k p p.count

abbrev pub IsReading : ℕ → ℕ → Option Counts → Parts → Type 0
IsReading layout n None p = p ≡ record { states = []; messages = []; count = None; floors = [] }
IsReading layout n (Some k) p = AreRead layout n k p

-- ---- what stands at the front of the bytes

pub record TakesCounts (layout : ℕ) (bytes : List ℕ) (k : Counts) : Type 0 where
  pub newer : 2 ≤ layout
  pub are : AreCounts k
  pub long : 38 ≤ length bytes
  pub spelled : take 38 bytes ≡ number_bytes k

abbrev pub NoCounts : ℕ → List ℕ → Type 0
NoCounts layout bytes = (k : Counts) (rest : List ℕ) → 2 ≤ layout → AreCounts k → bytes ≡ number_bytes k ++ rest → ⊥

pub record TakesState (n : ℕ) (old new : List KeyState) (bytes : List ℕ) (size : ℕ) : Type 0 where
  pub state : KeyState
  pub added : new ≡ old ++ state ∷ []
  pub own : IsOwnStateOf n state
  pub long : size ≤ length bytes
  pub some : 6 ≤ size
  pub spelled : take size bytes ≡ state_bytes state

abbrev pub NoState : ℕ → List ℕ → Type 0
NoState n bytes = (s : KeyState) (rest : List ℕ) → IsOwnStateOf n s → bytes ≡ state_bytes s ++ rest → ⊥

pub record TakesMessage (n : ℕ) (old new : List Msg) (bytes : List ℕ) (size : ℕ) : Type 0 where
  pub msg : Msg
  pub added : new ≡ old ++ msg ∷ []
  pub own : IsMessageOf n msg
  pub long : size ≤ length bytes
  pub some : 11 ≤ size
  pub spelled : take size bytes ≡ msg_bytes msg

abbrev pub NoMessage : ℕ → List ℕ → Type 0
NoMessage n bytes = (msg : Msg) (rest : List ℕ) → IsMessageOf n msg → bytes ≡ msg_bytes msg ++ rest → ⊥

-- the number of floors, which is known then
pub record TakesEnd (now : Option ℕ) (bytes : List ℕ) (size : ℕ) : Type 0 where
  pub count : ℕ
  pub known : now ≡ Some count
  pub below : count < 2 ^ 32
  pub is : size ≡ 4
  pub long : 4 ≤ length bytes
  pub spelled : take 4 bytes ≡ to_be_bytes w32 count

abbrev pub NoEnd : List ℕ → Type 0
NoEnd bytes = (count : ℕ) (rest : List ℕ) → count < 2 ^ 32 → bytes ≡ to_be_bytes w32 count ++ rest → ⊥

pub record TakesFloor (old new : List Key) (bytes : List ℕ) (size : ℕ) : Type 0 where
  pub floor : Key
  pub added : new ≡ old ++ floor ∷ []
  pub own : IsKeyInRange floor
  pub long : size ≤ length bytes
  pub some : 5 ≤ size
  pub spelled : take size bytes ≡ key_bytes floor

abbrev pub NoFloor : List ℕ → Type 0
NoFloor bytes = (floor : Key) (rest : List ℕ) → IsKeyInRange floor → bytes ≡ key_bytes floor ++ rest → ⊥

-- one part more was read, which these bytes begin with
pub record TakesPart (layout n : ℕ) (k : Counts) (old now : Parts) (bytes : List ℕ) (size : ℕ) : Type 0 where
  pub read : AreRead layout n k now
  pub taken : taken_of (Some k) now ≡ taken_of (Some k) old ++ take size bytes
  pub some : 1 ≤ size
  pub long : size ≤ length bytes

-- a snapshot that begins with these parts does not go on with the bytes
abbrev pub NoPart : ℕ → ℕ → Counts → Parts → List ℕ → Type 0
NoPart layout n k p bytes = NoMore layout n (taken_of (Some k) p) bytes

-- the number of floors is to follow, or a floor
abbrev pub is_floor_left : ℕ → Option ℕ → List Key → Bool
is_floor_left layout None floors = has_floors layout
is_floor_left layout (Some count) floors = nat_lt (length floors) count

-- these parts are a snapshot, or that of none
abbrev pub IsSoundPart : Bool → ℕ → ℕ → Counts → Parts → Type 0
IsSoundPart true layout n k p = IsWindowRead k p × (is_floor_left layout p.count p.floors ≡ false) × AreFitting k p.states p.floors
IsSoundPart false layout n k p = (s : Summary) → Spells layout n (taken_of (Some k) p) s → ⊥
