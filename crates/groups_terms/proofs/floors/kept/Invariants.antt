use Rattle.std.proofs.Common.{◌≡◌, ◌≤◌, length, drop}
use Rattle.ring_records.specs.FloorLists.{floored}
use Rattle.groups_terms.specs.Floors.{told}
use Rattle.groups_terms.proofs.floors.kept.Given as goal

abbrev pub decreases-loop-left : goal.decreases-loop-left
decreases-loop-left l = l.left

abbrev pub invariant-loop-left : goal.invariant-loop-left
invariant-loop-left l = record {
  bound : l.left ≤ length l.items;
  put : told l.made ≡ floored (drop l.left l.items);
}
