-- A name is text.
use Rattle.std.proofs.Common.{ℕ, ◌≡◌, ◌<◌, Bool, true, false, ◌&&◌, List, [], ◌∷◌, length, slice_index, nat_lt, IsAscii, refl, arith}
use Rattle.std.specs.Char.{is_ascii_lowercase}
use Rattle.std.specs.List.{list_all}
use Rattle.std.specs.Str.{IsUtf8}
use Rattle.std.proofs.lemmas.Str.{IsUtf8-from_ascii}
use Rattle.std.proofs.lemmas.Bool.Decides.{nat_tests}
use Rattle.std.proofs.lemmas.Str.Ascii.{IsAscii-cons, IsAscii-nil}
use Rattle.ring_records.specs.Names.{is_name, is_name_byte}

both : (a b : Bool) → a && b ≡ true → (a ≡ true) × (b ≡ true)
both true b e = (refl, e)
both false b e = absurd (cc e)

name_byte_is_ascii : (b : ℕ) → is_name_byte b ≡ true → b < 128
name_byte_is_ascii b e = grind (arith, nat_tests)

ascii_from : (bs : List ℕ) → list_all is_name_byte bs ≡ true → IsAscii bs
ascii_from [] e = IsAscii-nil
ascii_from (b ∷ bs) e =
    let parts = both (is_name_byte b) (list_all is_name_byte bs) e in
    IsAscii-cons b bs (name_byte_is_ascii b parts.0) (ascii_from bs parts.1)

pub name_is_text : (bytes : List ℕ) → is_name bytes ≡ true → IsUtf8 bytes
name_is_text bytes e =
    let some = both (nat_lt 0 (length bytes)) (nat_lt (length bytes) 17 && (is_ascii_lowercase (slice_index bytes 0) && list_all is_name_byte bytes)) e in
    let short = both (nat_lt (length bytes) 17) (is_ascii_lowercase (slice_index bytes 0) && list_all is_name_byte bytes) some.1 in
    let first = both (is_ascii_lowercase (slice_index bytes 0)) (list_all is_name_byte bytes) short.1 in
    IsUtf8-from_ascii bytes (ascii_from bytes first.1)
