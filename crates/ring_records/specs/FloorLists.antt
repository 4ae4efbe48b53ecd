-- Lists of floors.
use Rattle.std.specs.Prelude.{ℕ, List, map}
use Rattle.std.specs.FinMap as fin
use Rattle.std.specs.declared.cmp.Ordering.{Ordering}
use Rattle.ring_records.specs.declared.key.Key.{Key}
use Rattle.ring_records.specs.KeyOrder.{group_cmp}

-- the order of floors: by group
abbrev pub by_group : Key → Key → Ordering
by_group a b = group_cmp a.group b.group

-- a floor under its group
abbrev pub under_group : Key → List ℕ × ℕ
under_group floor = (floor.group, floor.term)

-- the floors by group
abbrev pub floored : List Key → fin.FinMap group_cmp ℕ
floored floors = fin.from_entries (map under_group floors)
