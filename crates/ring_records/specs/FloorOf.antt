-- The floor of a group. A term below it is given up.
use Rattle.std.specs.Prelude.{ℕ, Bool, false, ◌≡◌, nat_lt, unwrap_or, List}
use Rattle.std.specs.FinMap as fin
use Rattle.ring_records.specs.declared.key.Key.{Key}
use Rattle.ring_records.specs.KeyOrder.{group_cmp}

-- the floor of a group, 0 if there is none
abbrev pub floor_of : fin.FinMap group_cmp ℕ → List ℕ → ℕ
floor_of floors group = unwrap_or (fin.get floors group) 0

-- the key is given up
abbrev pub is_below_floor : fin.FinMap group_cmp ℕ → Key → Bool
is_below_floor floors key = nat_lt key.term (floor_of floors key.group)

-- and of a key that is not
abbrev pub IsLive : fin.FinMap group_cmp ℕ → Key → Type 0
IsLive floors key = is_below_floor floors key ≡ false
