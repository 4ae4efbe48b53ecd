-- The floors of groups, as they are kept.
use Rattle.std.specs.Prelude.{ℕ, List}
use Rattle.std.specs.BTreeMap.{BTreeMap}
use Rattle.std.specs.FinMap as map
use Rattle.ring_records.specs.KeyOrder.{group_cmp}

abbrev pub Kept : Type 0
Kept = BTreeMap (List ℕ) ℕ

-- the floors that are kept, by group
abbrev pub told : Kept → map.FinMap group_cmp ℕ
told floors = map.from_entries floors.entries
