use Rattle.std.proofs.Common.{◌≡◌, ◌≤◌, length, drop}
use Rattle.groups_terms.specs.Table.{ballots_of}
use Rattle.groups_terms.proofs.table.Table.restore.Given as goal

abbrev pub decreases-loop-left : goal.decreases-loop-left
decreases-loop-left l = l.left

abbrev pub invariant-loop-left : goal.invariant-loop-left
invariant-loop-left l = record {
  bound : l.left ≤ length l.items;
  me_is : l.table.me ≡ l.fn.me;
  count_is : l.table.stands ≡ l.count;
  floors_are : l.table.floors ≡ l.floors;
  put : l.table.ballots ≡ ballots_of (drop l.left l.items);
}
