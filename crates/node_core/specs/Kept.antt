-- By what a core keeps what it knows.
use Rattle.std.specs.Prelude.{ℕ, ◌≡◌, ◌+◌, ◌-◌, ◌*◌, ◌^◌, ◌<◌, ◌≤◌, if◌then◌else◌, [], ◌++◌, drop, Option, None}
use Rattle.std.specs.FinMap as map
use Rattle.std.specs.List.{cons_option, count_by}
use Rattle.ring_records.specs.declared.candidate.Candidate.{Candidate}
use Rattle.ring_records.specs.declared.input.Input.{Input}
use Rattle.ring_records.specs.declared.input.Input.TheVariants.{Stand, Take, Acked, Retire}
use Rattle.ring_records.specs.declared.limits.TheConstants.{STANDS}
use Rattle.ring_records.specs.declared.msg.Msg.{Msg}
use Rattle.ring_records.specs.declared.room.Room.{Room}
use Rattle.ring_records.specs.declared.summary.Summary.{Summary}
use Rattle.ring_records.specs.Admission.{snapshot_len, newest}
use Rattle.ring_records.specs.FloorOf.{is_below_floor}
use Rattle.ring_records.specs.KeyOrder.{key_cmp}
use Rattle.ring_records.specs.Leader.{term_of}
use Rattle.ring_records.specs.Latest.{IsLatest}
use Rattle.ring_records.specs.Message.{key_of}
use Rattle.ring_records.specs.Snapshot.{IsSound, has_stood}
use Rattle.cr_automaton.specs.declared.ballot.Ballot.{Ballot}
use Rattle.neighbour_link.specs.Outlink.{LinkView, sent_count}
use Rattle.groups_terms.specs.Table.{TableView, ballot_at, heard_by, leads, passes_on, states_in}
use Rattle.node_core.specs.Core.{IsNodeOf}

-- what is known by a count of inputs, these ballots, the link to the successor and the number that is expected
abbrev pub known_with : ℕ → TableView → LinkView → ℕ → Summary
known_with inputs table link expected = record {
  inputs = inputs;
  taken = expected;
  credit = link.credited;
  sent = sent_count link;
  stands = table.stands;
  keys = states_in table;
  window = link.window;
  floors = table.floors;
}

-- No more was sent, and no more was taken, than there were inputs; the Stands have a number of two bytes; and at a node
-- of the ring all of it is sound.
pub record IsCounted (me n : ℕ) (s : Summary) : Type 0 where
  pub sent_few : s.sent ≤ s.inputs
  pub taken_few : s.taken ≤ s.inputs
  pub stands_few : s.stands < 2 ^ 16
  pub sound : IsNodeOf n me → IsSound n s

-- So many bytes are the length of the snapshot: these, and those that are taken of room, stay below 2^64. No more is credited
-- than was sent, and the Stands are the keys that stood.
pub record IsMeasured (s : Summary) (bytes : ℕ) (room : Room) : Type 0 where
  pub exact : bytes ≡ snapshot_len newest s
  pub within : s.credit ≤ s.sent
  pub stood : s.stands ≡ count_by has_stood (map.values s.keys)
  pub short : bytes < 2 ^ 63 + 2 ^ 62 + 64 * s.inputs
  pub taken : room.taken < 2 ^ 63 + 2 ^ 62 + 64 * s.inputs

-- the link once this is sent
abbrev pub sent_on : Option Msg → LinkView → LinkView
sent_on on link = record { credited = link.credited; window = link.window ++ cons_option on [] }

-- the link once the first messages, so many, are credited
abbrev pub credited_to : ℕ → LinkView → LinkView
credited_to upto link = record { credited = upto; window = drop (upto - link.credited) link.window }

-- what the node of a table sends on when it hears the message: below a floor nothing
abbrev pub hears : TableView → Msg → Option Msg
hears table msg = if is_below_floor table.floors (key_of msg) then None else passes_on table msg

-- its ballots then
abbrev pub hearing : TableView → Msg → map.FinMap key_cmp Ballot
hearing table msg = if is_below_floor table.floors (key_of msg) then table.ballots else heard_by table msg

-- the node may accept the input, as far as its ballots and its link to the successor go
abbrev pub IsFree : TableView → LinkView → Input → Type 0
IsFree table link (Stand key bid) = ((ballot_at table key).stood ≡ None) × (table.stands < STANDS)
IsFree table link (Take msg_no msg) = Unit {0}
IsFree table link (Acked upto) = (link.credited < upto) × (upto ≤ sent_count link)
IsFree table link (Retire group new) = (led : Option (ℕ × Candidate)) → IsLatest (leads table.ballots group) led → new ≤ term_of led
