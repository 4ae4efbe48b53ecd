-- What a table is seen as.
use Rattle.std.specs.Prelude.{ℕ, List, map as list_map, Option, None, unwrap_or, refl}
use Rattle.std.specs.Coded.{Coded, code_by, coded×, coded_ℕ, coded_option}
use Rattle.std.specs.FinMap as map
use Rattle.ring_records.specs.declared.candidate.Candidate.{Candidate}
use Rattle.ring_records.specs.declared.key.Key.{Key}
use Rattle.ring_records.specs.declared.key_state.KeyState.{KeyState}
use Rattle.ring_records.specs.declared.msg.Msg.{Msg}
use Rattle.ring_records.specs.KeyOrder.{key_cmp, group_cmp}
use Rattle.ring_records.specs.Coded.{coded_key, coded_group}
use Rattle.ring_records.specs.KeyStates.{keyed}
use Rattle.ring_records.specs.Known.{passed, shown}
use Rattle.ring_records.specs.Latest.{IsLatest}
use Rattle.ring_records.specs.Lists.{or_else}
use Rattle.ring_records.specs.Message.{key_of}
use Rattle.cr_automaton.specs.declared.ballot.Ballot.{Ballot}
use Rattle.groups_terms.specs.Latest.{Leaders, latest_of}

-- its node, its ballots by key, how many Stands it made, and the floors of groups
pub record TableView : Type 0 where
  pub me : ℕ
  pub ballots : map.FinMap key_cmp Ballot
  pub stands : ℕ
  pub floors : map.FinMap group_cmp ℕ

abbrev pub coded_candidate : Coded Candidate
coded_candidate = code_by (ℕ × ℕ) (coded× coded_ℕ coded_ℕ) (λ c. (c.bid, c.node)) (λ p. record { bid = p.0; node = p.1 }) (λ _. refl)

abbrev pub coded_ballot : Coded Ballot
coded_ballot = code_by (Option ℕ × Option Candidate) (coded× (coded_option coded_ℕ) (coded_option coded_candidate)) (λ b. (b.stood, b.leader)) (λ p. record { stood = p.0; leader = p.1 }) (λ _. refl)

abbrev pub coded_table : Coded TableView
coded_table = code_by (ℕ × (map.FinMap key_cmp Ballot × (ℕ × map.FinMap group_cmp ℕ))) (coded× coded_ℕ (coded× (map.code coded_key coded_ballot) (coded× coded_ℕ (map.code coded_group coded_ℕ))))
    (λ t. (t.me, (t.ballots, (t.stands, t.floors)))) (λ p. record { me = p.0; ballots = p.1.0; stands = p.1.1.0; floors = p.1.1.1 }) (λ _. refl)

-- a ballot that is not kept is that of a key that no input named
abbrev pub known : Option Ballot → Ballot
known ballot = unwrap_or ballot (record { stood = None; leader = None })

abbrev pub ballot_at : TableView → Key → Ballot
ballot_at table key = known (map.get table.ballots key)

-- the leaders of a group's terms
abbrev pub leads : map.FinMap key_cmp Ballot → List ℕ → ℕ → Option Candidate
leads ballots group term = (known (map.get ballots (record { group = group; term = term }))).leader

-- the kept latest leaders are those of the ballots
abbrev pub AreLatest : map.FinMap key_cmp Ballot → Leaders → Type 0
AreLatest ballots latest = (group : List ℕ) → IsLatest (leads ballots group) (latest_of latest group)

-- the ballot once its node, me, took the message
abbrev pub heard : ℕ → Ballot → Msg → Ballot
heard me ballot msg = record { stood = ballot.stood; leader = or_else ballot.leader (shown me ballot.stood msg) }

-- what its node sends on for the message, where the key is not below a floor
abbrev pub passes_on : TableView → Msg → Option Msg
passes_on table msg = passed table.me (ballot_at table (key_of msg)).stood (ballot_at table (key_of msg)).leader msg

-- and the ballots then
abbrev pub heard_by : TableView → Msg → map.FinMap key_cmp Ballot
heard_by table msg = map.insert table.ballots (key_of msg) (heard table.me (ballot_at table (key_of msg)) msg)

-- what a kept ballot says of its key
abbrev pub state_at : Key × Ballot → KeyState
state_at entry = record { key = entry.0; stood = entry.1.stood; leader = entry.1.leader }

-- what the table says of the keys of its ballots
abbrev pub states_in : TableView → map.FinMap key_cmp KeyState
states_in table = keyed (list_map state_at (map.entries table.ballots))

-- the ballot that such a state makes
abbrev pub ballot_of : KeyState → Ballot
ballot_of s = record { stood = s.stood; leader = s.leader }

abbrev pub entry_of : KeyState → Key × Ballot
entry_of s = (s.key, ballot_of s)

-- the ballots that these states make
abbrev pub ballots_of : List KeyState → map.FinMap key_cmp Ballot
ballots_of states = map.from_entries (list_map entry_of states)
