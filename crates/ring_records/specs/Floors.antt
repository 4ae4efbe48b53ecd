-- The floors of groups, kept as keys: a group, and the least term of it that is not given up.
use Rattle.std.specs.Prelude.{ℕ, List, map}
use Rattle.std.specs.FinMap as fin
use Rattle.ring_records.specs.declared.key.Key.{Key}
use Rattle.ring_records.specs.KeyOrder.{group_cmp}

-- a group and its floor as a key
abbrev pub as_key : List ℕ × ℕ → Key
as_key e = record { group = e.0; term = e.1 }

-- the floors as keys, in order of group
abbrev pub floor_keys : fin.FinMap group_cmp ℕ → List Key
floor_keys floors = map as_key (fin.entries floors)
