-- What a run writes for a script.
use Rattle.std.specs.Prelude.{◌≡◌, ℕ, ◌≤◌, List, ◌∷◌, length, take, drop, Option, None, IfSome}
use Rattle.std.specs.Io.KnownBytes.{Appends}
use Rattle.ring_world.specs.State.{State}
use Rattle.line_words.specs.Texts.{text_of, IsFront}
use Rattle.line_words.specs.Words.{lines_of}
use Rattle.fault_console.specs.Script.{LinePrints, MayPrint}

-- all that the script may print, in so many lines
pub record IsWhole (script : List ℕ) (count : ℕ) (bytes : List ℕ) : Type 0 where
  pub short : length script ≤ 1000000
  pub out : List (List ℕ)
  pub ring : Option State
  pub prints : MayPrint None (lines_of script) out ring
  pub text : bytes ≡ text_of out
  pub counted : count ≡ length out

-- a front of all that the script may print
pub record IsCut (script bytes : List ℕ) : Type 0 where
  pub short : length script ≤ 1000000
  pub out : List (List ℕ)
  pub ring : Option State
  pub prints : MayPrint None (lines_of script) out ring
  pub front : IsFront bytes (text_of out)

-- The bytes are all that the first n lines of the script may print, and n is as great as it can be: the line after them, at
-- which memory was refused, prints a line or more, whatever it does.
pub record IsUpTo (script bytes : List ℕ) : Type 0 where
  pub short : length script ≤ 1000000
  pub n : ℕ
  pub line : List ℕ
  pub later : List (List ℕ)
  pub left : drop n (lines_of script) ≡ line ∷ later
  pub out : List (List ℕ)
  pub ring : Option State
  pub prints : MayPrint None (take n (lines_of script)) out ring
  pub text : bytes ≡ text_of out
  pub greatest : (more : List (List ℕ)) (next : Option State) → LinePrints ring line more next → 1 ≤ length more

-- the bytes that are written behind the old ones, of which P holds
abbrev pub Wrote : Option (List ℕ) → Option (List ℕ) → (List ℕ → Type 0) → Type 0
Wrote old new P = (bytes : List ℕ) × Appends old new bytes × P bytes

-- The same of the script and these bytes; the script is what the reader has, where it tells that.
abbrev pub WroteOf : Option (List ℕ) → Option (List ℕ) → Option (List ℕ) → (List ℕ → List ℕ → Type 0) → Type 0
WroteOf known old new P = (script : List ℕ) × IfSome known (λ all. script ≡ all) × Wrote old new (P script)
