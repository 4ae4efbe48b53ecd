-- How a session begins.
use Rattle.std.specs.Prelude.{ℕ, ◌==◌, if◌then◌else◌, List, [], ◌∷◌, Option, Some, None}

-- what is to come yet of the list behind these bytes: nothing where it came whole, `None` where others came
abbrev pub rest_of : List ℕ → List ℕ → Option (List ℕ)
rest_of [] bytes = Some []
rest_of (x ∷ xs) [] = Some (x ∷ xs)
rest_of (x ∷ xs) (byte ∷ bytes) = if x == byte then rest_of xs bytes else None
