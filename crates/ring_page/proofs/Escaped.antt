-- What stands for a text, character by character.
use Rattle.std.proofs.Common.{◌≡◌, ℕ, List, [], ◌++◌, length, encode_utf8, IsUtf8}
use Rattle.std.proofs.StrCases.{chars_of_empty}
use Rattle.std.proofs.lemmas.Str.{chars_past_char}
use Rattle.ring_page.specs.Escaped.{escaped, stand_in}

pub escaped_empty : (text : List ℕ) → length text ≡ 0 → escaped text ≡ []
unfolding escaped
escaped_empty text none = rw (chars_of_empty text none)

pub escaped_step : (text rest : List ℕ) (c : ℕ) → IsUtf8 text → text ≡ encode_utf8 c ++ rest → escaped text ≡ stand_in c ++ escaped rest
unfolding escaped
escaped_step text rest c utf8 parts = rw (chars_past_char text rest c utf8 parts)
