-- What reading finds in the bytes of a snapshot, from left to right.
use Rattle.std.specs.Prelude.{ℕ, zero, suc, ◌≡◌, ◌+◌, ◌-◌, ◌==◌, ◌^◌, ◌≤◌, ◌⊎◌, nat_lt, if◌then◌else◌, List, [], ◌∷◌, ◌++◌, Some, None, Result, Ok, Err}
use Rattle.std.specs.Int.{w16, w32, w64}
use Rattle.std.specs.FinMap as fin
use Rattle.std.specs.List.{count_by, AllByRecursion}
use Rattle.std.specs.List.Sorted.{IsStrictlySortedBy}
use Rattle.ring_records.specs.declared.candidate.Candidate.{Candidate}
use Rattle.ring_records.specs.declared.key.Key.{Key}
use Rattle.ring_records.specs.declared.key_state.KeyState.{KeyState}
use Rattle.ring_records.specs.declared.msg.Msg.{Msg}
use Rattle.ring_records.specs.declared.msg.Msg.TheVariants.{Token, Elected}
use Rattle.ring_records.specs.declared.record.RecordFault.{RecordFault}
use Rattle.ring_records.specs.declared.record.RecordFault.TheVariants.{Kind, Number}
use Rattle.ring_records.specs.declared.refusal.Refusal.{Refusal}
use Rattle.ring_records.specs.declared.refusal.Refusal.TheVariants as refused
use Rattle.ring_records.specs.declared.snapshot_read.Counts.{Counts}
use Rattle.ring_records.specs.Admission.{has_floors}
use Rattle.ring_records.specs.FloorOf.{IsLive}
use Rattle.ring_records.specs.FloorLists.{by_group, floored}
use Rattle.ring_records.specs.KeyOrder.{group_cmp}
use Rattle.ring_records.specs.StateOrder.{by_state}
use Rattle.ring_records.specs.RecordReading.{◌>>=◌, byte_at, number_at, key_at, bid_at, candidate_at}
use Rattle.ring_records.specs.Snapshot.{has_stood}

-- ---- one item and the bytes after it

-- a candidate of a ring of n
unfoldable pub candidate_in : ℕ → List ℕ → Result (Candidate × List ℕ) RecordFault
candidate_in n bytes = do
  c ← candidate_at bytes
  if nat_lt n c.0.node then Err Number else Ok c

-- what stands behind a key, by its flags
unfoldable pub state_behind : ℕ → Key → ℕ → List ℕ → Result (KeyState × List ℕ) RecordFault
state_behind n key flags bytes =
    if flags == 0 then Ok (record { key = key; stood = None; leader = None }, bytes)
    else (if flags == 1 then (do
      bid ← bid_at bytes
      Ok (record { key = key; stood = Some bid.0; leader = None }, bid.1))
    else (if flags == 2 then (do
      c ← candidate_in n bytes
      Ok (record { key = key; stood = None; leader = Some c.0 }, c.1))
    else (if flags == 3 then (do
      bid ← bid_at bytes
      c ← candidate_in n bid.1
      Ok (record { key = key; stood = Some bid.0; leader = Some c.0 }, c.1))
    else Err Number)))

unfoldable pub state_at : ℕ → List ℕ → Result (KeyState × List ℕ) RecordFault
state_at n bytes = do
  key ← key_at bytes
  flags ← byte_at key.1
  state_behind n key.0 flags.0 flags.1

-- what stands behind the kind byte of a message
unfoldable pub named_at : ℕ → List ℕ → Result ((Key × Candidate) × List ℕ) RecordFault
named_at n bytes = do
  key ← key_at bytes
  c ← candidate_in n key.1
  Ok ((key.0, c.0), c.1)

unfoldable pub token_of : ℕ → List ℕ → Result (Msg × List ℕ) RecordFault
token_of n bytes = do
  x ← named_at n bytes
  Ok (Token x.0.0 x.0.1, x.1)

unfoldable pub elected_of : ℕ → List ℕ → Result (Msg × List ℕ) RecordFault
elected_of n bytes = do
  x ← named_at n bytes
  Ok (Elected x.0.0 x.0.1, x.1)

unfoldable pub msg_behind : ℕ → ℕ → List ℕ → Result (Msg × List ℕ) RecordFault
msg_behind n kind bytes = if kind == 2 then token_of n bytes else (if kind == 3 then elected_of n bytes else Err Kind)

unfoldable pub msg_at : ℕ → List ℕ → Result (Msg × List ℕ) RecordFault
msg_at n bytes = do
  kind ← byte_at bytes
  msg_behind n kind.0 kind.1

-- so many of them, one behind the other
unfoldable pub items_at : {A : Type 0} → (List ℕ → Result (A × List ℕ) RecordFault) → ℕ → List ℕ → Result (List A × List ℕ) RecordFault
items_at f zero bytes = Ok ([], bytes)
items_at f (suc count) bytes = do
  x ← f bytes
  xs ← items_at f count x.1
  Ok (x.0 ∷ xs.0, xs.1)

-- ---- the whole

unfoldable pub counts_at : List ℕ → Result (Counts × List ℕ) RecordFault
counts_at bytes = do
  inputs ← number_at w64 bytes
  taken ← number_at w64 inputs.1
  credit ← number_at w64 taken.1
  sent ← number_at w64 credit.1
  stands ← number_at w16 sent.1
  keys ← number_at w32 stands.1
  Ok (record { inputs = inputs.0; taken = taken.0; credit = credit.0; sent = sent.0; stands = stands.0; keys = keys.0 }, keys.1)

-- how many messages the window has
abbrev pub window_size : Counts → Result ℕ RecordFault
window_size k = if nat_lt k.sent k.credit then Err Number else Ok (k.sent - k.credit)

-- nothing is left over
abbrev pub at_end : {A : Type 0} → A → List ℕ → Result A RecordFault
at_end x [] = Ok x
at_end x (b ∷ rest) = Err Number

-- floors behind their number
unfoldable pub some_floors_at : List ℕ → Result (List Key × List ℕ) RecordFault
some_floors_at bytes = do
  count ← number_at w32 bytes
  items_at key_at count.0 count.1

-- the floors, which stand there from layout 3 on
unfoldable pub floors_at : ℕ → List ℕ → Result (List Key × List ℕ) RecordFault
floors_at layout bytes = if has_floors layout then some_floors_at bytes else Ok ([], bytes)

-- the parts of a snapshot of a layout that has some
unfoldable pub parts_at : ℕ → ℕ → List ℕ → Result (Counts × List KeyState × List Msg × List Key) RecordFault
parts_at layout n bytes = do
  counts ← counts_at bytes
  size ← window_size counts.0
  states ← items_at (state_at n) counts.0.keys counts.1
  msgs ← items_at (msg_at n) size states.1
  floors ← floors_at layout msgs.1
  at_end (counts.0, states.0, msgs.0, floors.0) floors.1

-- the key of the state is not below its floor
abbrev pub IsLiveState : fin.FinMap group_cmp ℕ → KeyState → Type 0
IsLiveState floors s = IsLive floors s.key

-- the counts fit each other and the states, which are in order of key, and not below the floors, in order of group
pub record AreFitting (k : Counts) (states : List KeyState) (floors : List Key) : Type 0 where
  pub inputs : k.inputs ≤ 2 ^ 56
  pub acts : k.taken + k.stands ≤ k.inputs
  pub sent : k.sent ≤ k.inputs
  pub stands : k.stands ≡ count_by has_stood states
  pub rising : IsStrictlySortedBy by_state states
  pub floors_rise : IsStrictlySortedBy by_group floors
  pub live : AllByRecursion (IsLiveState (floored floors)) states

-- refused as 16 where nothing is found, and else for want of memory alone
abbrev pub IsBroken : {A : Type 0} → Refusal → Result A RecordFault → Type 0
IsBroken e (Ok x) = e ≡ refused.OutOfMemory
IsBroken e (Err fault) = (e ≡ refused.Damaged 0) ⊎ (e ≡ refused.OutOfMemory)

-- these first, and then what is found
abbrev pub behind_these : {A : Type 0} → List A → Result (List A × List ℕ) RecordFault → Result (List A × List ℕ) RecordFault
behind_these xs (Ok p) = Ok (xs ++ p.0, p.1)
behind_these xs (Err fault) = Err fault
