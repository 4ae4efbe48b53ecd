use Rattle.std.proofs.Common.{◌≡◌, ◌++◌, take}
use Rattle.group_commit.specs.Content.{retired_all}
use Rattle.group_commit.proofs.desk.decisions.push_floors.Given as goal

abbrev pub invariant-loop-floor : goal.invariant-loop-floor
invariant-loop-floor l = l.notices.items ≡ l.fn.notices.items ++ retired_all (take l.floor-index l.floors)
