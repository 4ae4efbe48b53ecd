use Rattle.std.proofs.Common.{◌≡◌, ◌≤◌, ◌+◌, ◌-◌, length, take}
use Rattle.std.specs.List.{filter_map}
use Rattle.std.specs.Prelude.{vec_len, vec_capacity}
use Rattle.ring_records.specs.Notices.{decided_all}
use Rattle.group_commit.specs.Leads.{led}
use Rattle.group_commit.proofs.desk.decisions.leaders_of.Given as goal

abbrev pub invariant-loop-state : goal.invariant-loop-state
invariant-loop-state l =
    (l.notices.items ≡ decided_all (filter_map led (take l.state-index l.states)))
    × (vec_len l.notices + (length l.states - l.state-index) ≤ vec_capacity l.notices)
