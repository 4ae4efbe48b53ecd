-- The ballots as they are kept, and those below a floor.
use Rattle.std.specs.Prelude.{ℕ, ◌≤◌, Bool, if◌then◌else◌, map as list_map, IsSome, is_some}
use Rattle.std.specs.BTreeMap.{BTreeMap}
use Rattle.std.specs.FinMap as map
use Rattle.std.specs.List.{count_by, sum_by}
use Rattle.ring_records.specs.declared.key.Key.{Key}
use Rattle.ring_records.specs.declared.key_state.KeyState.{KeyState}
use Rattle.ring_records.specs.Admission.{state_len}
use Rattle.ring_records.specs.KeyOrder.{key_cmp}
use Rattle.ring_records.specs.KeyStates.{keyed}
use Rattle.ring_records.specs.Snapshot.{has_stood}
use Rattle.cr_automaton.specs.declared.ballot.Ballot.{Ballot}
use Rattle.groups_terms.specs.Table.{known, state_at}

abbrev pub BallotMap : Type 0
BallotMap = map.FinMap key_cmp Ballot

-- the ballots that are kept, by key
abbrev pub kept_in : BTreeMap Key Ballot → BallotMap
kept_in ballots = map.from_entries ballots.entries

-- each term is one
abbrev pub HaveTerms : BallotMap → Type 0
HaveTerms ballots = (key : Key) → IsSome (map.get ballots key) → (1 ≤ key.term) × (key.term ≤ 999999999)

-- what the ballots say of their keys
abbrev pub states_by : BallotMap → map.FinMap key_cmp KeyState
states_by ballots = keyed (list_map state_at (map.entries ballots))

-- how many of them stood, where the test holds of the key
abbrev pub stood_among : BallotMap → (Key → Bool) → ℕ
stood_among ballots test = count_by has_stood (map.values (map.retain_keys (states_by ballots) test))

-- and at one key
abbrev pub stood_at : BallotMap → Key → ℕ
stood_at ballots key = if is_some (known (map.get ballots key)).stood then 1 else 0

-- the bytes that their states take in a snapshot, where the test holds of the key
abbrev pub bytes_among : BallotMap → (Key → Bool) → ℕ
bytes_among ballots test = sum_by state_len (map.values (map.retain_keys (states_by ballots) test))
