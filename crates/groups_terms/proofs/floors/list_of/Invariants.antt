use Rattle.std.proofs.Common.{◌≡◌, ◌++◌, map as list_map}
use Rattle.ring_records.specs.Floors.{as_key}
use Rattle.groups_terms.proofs.floors.list_of.Given as goal

abbrev pub invariant-loop-group : goal.invariant-loop-group
invariant-loop-group l = l.items.items ++ list_map as_key l.group-iterator ≡ list_map as_key l.floors.entries
