-- Lines and words, by a look at the bytes.
use Rattle.std.specs.Prelude.{ℕ, Bool, ◌&&◌, if◌then◌else◌, List, length, drop, filter, nat_lt, ◌==◌, Option, Some, None}
use Rattle.std.specs.Str.Lines.{lines}
use Rattle.std.specs.Char.{is_ascii_digit}
use Rattle.std.specs.List.{slice_split, list_all, starts_with}

-- A line feed ends a line, and a carriage return just before it is dropped. A last line without a line feed counts.
abbrev pub lines_of : List ℕ → List (List ℕ)
lines_of text = lines text

-- Words are parted by one or more spaces. Spaces at either end are dropped.
abbrev pub words_of : List ℕ → List (List ℕ)
words_of line = filter (λ word. nat_lt 0 (length word)) (slice_split (λ b. b == 32) line)

-- what stands behind these bytes, where the text begins with them
unfoldable pub behind : List ℕ → List ℕ → Option (List ℕ)
behind front text = if starts_with ◌==◌ text front then Some (drop (length front) text) else None

-- a number is 1 to 10 decimal digits; leading zeros are allowed
abbrev pub is_number : List ℕ → Bool
is_number word = nat_lt 0 (length word) && (nat_lt (length word) 11 && list_all is_ascii_digit word)
