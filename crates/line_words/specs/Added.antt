-- What is added to a text.
use Rattle.std.specs.Prelude.{◌≡◌, ℕ, List, [], ◌∷◌, ◌++◌}
use Rattle.line_words.specs.Texts.{text_of}

abbrev pub AddsLines : List ℕ → List ℕ → List (List ℕ) → Type 0
AddsLines old new lines = new ≡ old ++ text_of lines

abbrev pub AddsLine : List ℕ → List ℕ → List ℕ → Type 0
AddsLine old new line = AddsLines old new (line ∷ [])
