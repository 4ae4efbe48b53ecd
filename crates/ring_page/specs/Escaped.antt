-- What stands for a text in HTML.
use Rattle.std.specs.Prelude.{ℕ, if◌then◌else◌, ◌==◌, List, codes, chars}
use Rattle.std.specs.List.{flat_map}
use Rattle.std.specs.Char.{encode_utf8}

-- a character itself, but for the five that have a meaning there
abbrev pub stand_in : ℕ → List ℕ
stand_in c =
    if c == 38 then codes "&amp;"
    else if c == 60 then codes "&lt;"
    else if c == 62 then codes "&gt;"
    else if c == 34 then codes "&quot;"
    else if c == 39 then codes "&#39;"
    else encode_utf8 c

unfoldable pub escaped : List ℕ → List ℕ
escaped text = flat_map stand_in (chars text)
