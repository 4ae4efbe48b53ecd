-- What a line says of what its session stood for.
use Rattle.std.specs.Prelude.{ℕ, ◌+◌, ◌==◌, nat_le, Bool, not, ◌&&◌, if◌then◌else◌, List, length, take, drop, position, codes, Option, Some, None, Result, Ok, Err, option_and_then}
use Rattle.std.specs.Char.{is_control}
use Rattle.std.specs.List.{list_all}
use Rattle.std.specs.Str.{chars, is_utf8}
use Rattle.line_words.specs.Forms.{name_word, term_word}
use Rattle.line_words.specs.Words.{behind}
use Rattle.ring_records.specs.declared.key.Key.{Key}
use Rattle.ring_records.specs.declared.refusal.Refusal.{Refusal}
use Rattle.door_rules.specs.declared.mark.Mark.{Mark}
use Rattle.door_rules.specs.declared.mark.Mark.TheVariants.{Tell, Resign}
use Rattle.door_rules.specs.declared.mark.TheConstants.{TEXT_BYTES}

-- UTF-8, with no control character
abbrev pub is_printable : List ℕ → Bool
is_printable text = is_utf8 text && list_all (λ c. not (is_control c)) (chars text)

-- 1 to 200 bytes of it
abbrev pub is_text : List ℕ → Bool
is_text text = nat_le 1 (length text) && (nat_le (length text) TEXT_BYTES && is_printable text)

abbrev pub key : List ℕ → ℕ → Key
key g t = record { group = g; term = t }

abbrev pub found : {A : Type 0} → Result A Refusal → Option A
found (Ok x) = Some x
found (Err e) = None

-- what is told by a text of the group of this name
abbrev pub told : List ℕ → List ℕ → Option Mark
told name text = if is_text text then option_and_then (λ group. Some (Tell group (length text))) (found (name_word name)) else None

-- `G TEXT`
abbrev pub told_in : List ℕ → Option Mark
told_in rest = by (position (λ b. b == 32) rest) where
  by : Option ℕ → Option Mark
  by None = None
  by (Some at) = told (take at rest) (drop (at + 1) rest)

abbrev pub resigned : List ℕ → List ℕ → Option Mark
resigned name number = option_and_then (λ g. option_and_then (λ t. Some (Resign (key g t))) (found (term_word number))) (found (name_word name))

-- `G T`
abbrev pub resigned_in : List ℕ → Option Mark
resigned_in rest = by (position (λ b. b == 32) rest) where
  by : Option ℕ → Option Mark
  by None = None
  by (Some at) = resigned (take at rest) (drop (at + 1) rest)

-- what stands behind either word
abbrev pub mark_by : Option (List ℕ) → Option (List ℕ) → Option Mark
mark_by (Some rest) other = told_in rest
mark_by None (Some rest) = resigned_in rest
mark_by None None = None

-- what a line says, which is given without its end: `tell G TEXT` or `resign G T`, with one space behind each word
abbrev pub mark_in : List ℕ → Option Mark
mark_in line = mark_by (behind (codes "tell ") line) (behind (codes "resign ") line)
