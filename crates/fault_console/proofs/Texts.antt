-- How many lines are printed.
use Rattle.std.proofs.Common.{◌≡◌, List, [], ◌∷◌, ◌++◌, ◌+◌, ℕ, length, map}
use Rattle.std.proofs.lemmas.List.{length-append, length-map}

pub lines_after : {A : Type 0} (f : A → List ℕ) (xs : List A) (line : List ℕ) → length (map f xs ++ (line ∷ [])) ≡ length xs + 1
lines_after f xs line = simp (length-append, length-map)

-- a line for each, and what follows
pub asked_count : {A : Type 0} (f : A → List ℕ) (xs : List A) (more : List (List ℕ)) → length (map f xs ++ more) ≡ length xs + length more
asked_count f xs more = simp (length-append, length-map)
