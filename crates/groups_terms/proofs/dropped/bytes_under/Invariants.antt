use Rattle.std.proofs.Common.{◌≡◌, ◌+◌, map as list_map}
use Rattle.std.specs.List.{sum_by}
use Rattle.ring_records.specs.Admission.{state_len}
use Rattle.ring_records.specs.Known.{drops}
use Rattle.groups_terms.specs.Dropped.{bytes_among, kept_in}
use Rattle.groups_terms.specs.Table.{state_at}
use Rattle.groups_terms.proofs.dropped.bytes_under.Given as goal

-- with those of the entries that are left they are all
abbrev pub invariant-loop-key : goal.invariant-loop-key
invariant-loop-key l = l.bytes + sum_by state_len (list_map state_at l.key-iterator) ≡ bytes_among (kept_in l.fn.ballots) (drops l.fn.group l.fn.floor)
