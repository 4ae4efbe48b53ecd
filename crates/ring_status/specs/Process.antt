-- What the system says of the process.
use Rattle.std.specs.Prelude.{ℕ, ◌*◌, List, Option, Some, None, option_and_then}
use Rattle.line_words.specs.Forms.{number_word}
use Rattle.ring_status.specs.Targets.{cut_at, found}

-- so many bytes, of pages
abbrev pub in_bytes : ℕ → Option ℕ → Option ℕ
in_bytes page None = None
in_bytes page (Some pages) = Some (pages * page)

-- what stands before the first space is a number of pages
abbrev pub pages_in : List ℕ → Option ℕ
pages_in text = found (number_word 0 999999999 (cut_at 32 text).0)

-- the second number of a line, in bytes
unfoldable pub resident_in : List ℕ → ℕ → Option ℕ
resident_in statm page = in_bytes page (option_and_then pages_in (cut_at 32 statm).1)
