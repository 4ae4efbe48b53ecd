-- What the printing functions add to a text.
use Rattle.std.specs.Prelude.{◌≡◌, ℕ, List, length, Option, Some, None}
use Rattle.ring_world.specs.State.{State}
use Rattle.line_words.specs.Added.{AddsLines}

-- n lines are added, of which P holds
abbrev pub Does : List ℕ → List ℕ → ℕ → (List (List ℕ) → Type 0) → Type 0
Does old new n P = (lines : List (List ℕ)) × P lines × AddsLines old new lines × (n ≡ length lines)

-- the ticket numbers that are taken
abbrev pub tickets_of : Option State → ℕ
tickets_of None = 0
tickets_of (Some w) = w.tickets
