-- When a trouble is told that comes and goes.
use Rattle.std.specs.Prelude.{ℕ, ◌-◌, nat_le, Bool, true, false, ◌&&◌, if◌then◌else◌, Option, Some, None}
use Rattle.log_lines.specs.declared.spell.Spell.{Spell}
use Rattle.log_lines.specs.declared.spell.TheConstants.{QUIET}
use Rattle.log_lines.specs.declared.spell.Turn.{Turn}
use Rattle.log_lines.specs.declared.spell.Turn.TheVariants.{Begins, Ends}

-- it was told a minute ago, or never
abbrev pub may_begin : Option ℕ → ℕ → Bool
may_begin None second = true
may_begin (Some last) second = nat_le QUIET (second - last)

-- it begins to be told now
abbrev pub begins : Spell → Bool → ℕ → Bool
begins spell is_there second = is_there && may_begin spell.last second

-- what is told now: that it is over, where it is told and no longer there; that it is there, where that is not told yet
abbrev pub turn_of : Spell → Bool → ℕ → Option Turn
turn_of spell is_there second =
    if spell.is_told then (if is_there then None else Some Ends)
    else (if begins spell is_there second then Some Begins else None)

-- what is known behind that
abbrev pub spell_after : Spell → Bool → ℕ → Spell
spell_after spell is_there second =
    if spell.is_told then record spell { is_told = is_there }
    else (if begins spell is_there second then record { is_told = true; last = Some second } else spell)
