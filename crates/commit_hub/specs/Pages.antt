-- What a hub is made of.
use Rattle.std.specs.Prelude.{ℕ, ◌≡◌}
use Rattle.commit_hub.specs.declared.blanks.Blanks.{Blanks}
use Rattle.commit_hub.specs.Ties.{Names}

-- the page is that of the ledger of this name, which has so many parts
abbrev pub ForAccepted : Blanks → ℕ → ℕ → Type 0
ForAccepted blanks name parts = (blanks.accepted.name ≡ name) × (blanks.accepted.parts ≡ parts)

-- the halves have these names
abbrev pub ForTie : Blanks → Names → Type 0
ForTie blanks names = blanks.held.name ≡ names
