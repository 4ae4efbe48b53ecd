-- How many shares a hub can give.
use Rattle.std.specs.Prelude.{ℕ}
use Rattle.commit_hub.specs.declared.blanks.Blanks.{Blanks}

-- how many shares the hub can give
abbrev pub places_of : Blanks → ℕ
places_of blanks = blanks.places
