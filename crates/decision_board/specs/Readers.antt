-- What contracts see of a reader of a board.
use Rattle.std.specs.Prelude.{ℕ, ◌≡◌, ◌<◌, ◌≤◌, List, Option, Result, Ok, Err}
use Rattle.ring_records.specs.declared.candidate.Candidate.{Candidate}
use Rattle.ring_records.specs.declared.key.Key.{Key}
use Rattle.ring_records.specs.declared.notice.Notice.{Notice}
use Rattle.ring_records.specs.Notices.{floor_in, leader_in}

-- the list that a reader saw last; and the longest that it learned
abbrev pub seen : List Notice × List Notice → List Notice
seen reader = reader.0

abbrev pub learned : List Notice × List Notice → List Notice
learned reader = reader.1

-- What the list says of the key: its leader, if it has one, or the floor that it is below.
abbrev pub IsWho : List Notice → Key → Result (Option Candidate) ℕ → Type 0
IsWho ns key (Ok leader) = (leader ≡ leader_in ns key) × (floor_in ns key.group ≤ key.term)
IsWho ns key (Err floor) = (floor ≡ floor_in ns key.group) × (key.term < floor)
