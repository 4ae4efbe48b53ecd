-- Whether bytes are text, as a test and as a fact.
use Rattle.std.proofs.Common.{◌≡◌, ℕ, true, false, List, refl}
use Rattle.std.specs.Str.{IsUtf8, is_utf8}
use Rattle.std.proofs.lemmas.Str.{IsUtf8-from_is_utf8, is_utf8-from_IsUtf8}

pub is_utf8_of : (bytes : List ℕ) → IsUtf8 bytes → is_utf8 bytes ≡ true
is_utf8_of bytes is = is_utf8-from_IsUtf8 bytes is

pub not_utf8_of : (bytes : List ℕ) → ¬ (IsUtf8 bytes) → is_utf8 bytes ≡ false
not_utf8_of bytes never = elim (is_utf8 bytes) as (λ b. is_utf8 bytes ≡ b → b ≡ false) [ true ↦ λ e. absurd (never (IsUtf8-from_is_utf8 bytes e)) | false ↦ λ e. refl ] refl
