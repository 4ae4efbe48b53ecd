-- How many lines are told in a second.
use Rattle.std.specs.Prelude.{ℕ, ◌+◌, ◌-◌, ◌^◌, Bool, min, if◌then◌else◌}
use Rattle.log_lines.specs.declared.quota.Quota.{Quota}
use Rattle.log_lines.specs.declared.quota.TheConstants.{MOST_LINES}

-- so many, and one or more besides; no number is greater than this one
abbrev pub more : ℕ → ℕ → ℕ
more a b = min (a + b) (2 ^ 64 - 1)

-- behind a line: one fewer may be told, where it was told, else one more is left out
abbrev pub counted : Quota → Bool → Quota
counted quota is_told = if is_told then record quota { free = quota.free - 1 } else record quota { left_out = more quota.left_out 1 }

-- at a second's beginning: all may be told, and what was left out is owed
abbrev pub begun : Quota → Quota
begun quota = record { free = MOST_LINES; left_out = 0; due = more quota.due quota.left_out }
