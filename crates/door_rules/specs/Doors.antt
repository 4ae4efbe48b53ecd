-- What keeps a session, and which one holds the last free door.
use Rattle.std.specs.Prelude.{ℕ, ◌+◌, ◌==◌, nat_le, Bool, true, false, not, ◌||◌, ◌&&◌, if◌then◌else◌, Option, Some, None}
use Rattle.door_rules.specs.declared.turns.TheConstants.{SHORT_LINES, FULL_SECONDS}

-- the refusals of a line that asks nothing: of a name, of a number, or of all of it
abbrev pub asks_nothing : ℕ → Bool
asks_nothing number = ((number == 1) || (number == 2)) || (number == 25)

-- whether a line keeps its session from being idle that was answered with this refusal, if with one
abbrev pub keeps : Option ℕ → Bool
keeps None = true
keeps (Some refusal) = not (asks_nothing refusal)

-- whether so many sessions hold all doors, or all but one
abbrev pub are_taken : ℕ → ℕ → Bool
are_taken doors busy = nat_le doors (busy + 1)

-- since when all but the kept one are held: since the earlier moment, if there is one, or now
abbrev pub first_of : Option ℕ → ℕ → ℕ
first_of None now = now
first_of (Some since) now = since

abbrev pub since_when : Bool → Option ℕ → ℕ → Option ℕ
since_when taken before now = if taken then Some (first_of before now) else None

-- whether a session at the last free door is over, behind so many lines
abbrev pub is_over : Bool → ℕ → Bool
is_over is_short lines = is_short && nat_le SHORT_LINES lines

-- whether no door was free for a while
abbrev pub was_none_free : Option ℕ → ℕ → Bool
was_none_free None now = false
was_none_free (Some since) now = nat_le (since + FULL_SECONDS) now
