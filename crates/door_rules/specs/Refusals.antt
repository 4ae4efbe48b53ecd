-- Which refusals are told with the numbers of a node.
use Rattle.std.specs.Prelude.{ℕ, nat_lt, nat_le, Bool, ◌||◌, ◌&&◌}

-- whether the refusal of this number is told, which clients were told so often: from 3 to 9 always
abbrev pub is_listed : ℕ → ℕ → Bool
is_listed number count = nat_lt 0 count || (nat_le 3 number && nat_le number 9)
