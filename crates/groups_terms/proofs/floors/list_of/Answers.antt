use Rattle.std.proofs.Common.{sym, ap, ◌∙◌, subst}
use Rattle.std.specs.List.Sorted.{IsStrictlySortedBy}
use Rattle.ring_records.specs.FloorLists.{by_group, floored}
use Rattle.groups_terms.proofs.Keeping.{sorted_floors, all_listed, floored-entries}
use Rattle.groups_terms.proofs.floors.list_of.Goals as goal

pub from_sorted-requires : goal.from_sorted-requires
from_sorted-requires c =
    subst (IsStrictlySortedBy by_group) (sym (all_listed c.loop-group.items.items _ c.args.floors.now.entries c.loop-group.invariant c.in-None.ensures.steps.0))
    (sorted_floors c.args.floors.now.entries c.len.ensures.ordered)

pub returns : goal.returns
returns c = c.from_sorted.ensures ∙ (ap floored (all_listed c.loop-group.items.items _ c.args.floors.now.entries c.loop-group.invariant c.in-None.ensures.steps.0) ∙ floored-entries c.args.floors.now.entries)
