-- What a line says: its words, the form that they fit, and the first fault.
use Rattle.std.specs.Prelude.{ℕ, Bool, true, false, ◌&&◌, List, [], ◌∷◌, length, map, nat_lt, nat_le, if◌then◌else◌, Option, Some, None, Result, Ok, Err}
use Rattle.std.specs.Str.{bytes_eq}
use Rattle.std.specs.Str.Parse.{digits_value}
use Rattle.ring_records.specs.Names.{is_name}
use Rattle.ring_records.specs.declared.refusal.Refusal.{Refusal}
use Rattle.ring_records.specs.declared.refusal.Refusal.TheVariants.{BadName, BadNumber, BadLine}
use Rattle.line_words.specs.Words.{is_number, words_of}

-- ---- what a word says

-- a number from low to high
unfoldable pub number_word : ℕ → ℕ → List ℕ → Result ℕ Refusal
number_word low high word =
    let n = digits_value 10 word in
    if is_number word && (nat_le low n && nat_le n high) then Ok n else Err BadNumber

-- a group
abbrev pub name_word : List ℕ → Result (List ℕ) Refusal
name_word word = if is_name word then Ok word else Err BadName

abbrev pub term_word : List ℕ → Result ℕ Refusal
term_word word = number_word 1 999999999 word

abbrev pub bid_word : List ℕ → Result ℕ Refusal
bid_word word = number_word 0 999999999 word

-- ---- forms

-- what a word of a form is
pub data Word : Type 0 where
  -- this word
  Fixed : List ℕ → Word
  -- a number from the first to the second
  Number : ℕ → ℕ → Word
  -- a group
  Name : Word

abbrev pub term : Word
term = Number 1 999999999

abbrev pub bid : Word
bid = Number 0 999999999

-- What is made of the words: an A, of each number and each group in turn.
abbrev pub Made : Type 0 → List Word → Type 0
Made A [] = A
Made A (Fixed word ∷ words) = Made A words
Made A (Number low high ∷ words) = ℕ → Made A words
Made A (Name ∷ words) = List ℕ → Made A words

-- the words of a command, and the command that is made of them
abbrev pub Form : Type 0 → Type 0
Form A = (words : List Word) × Made A words

-- the word that has to stand there, if any
abbrev pub fixed : Word → Option (List ℕ)
fixed (Fixed word) = Some word
fixed (Number low high) = None
fixed Name = None

-- there are as many words, and those that have to stand there do
abbrev pub fits : List (Option (List ℕ)) → List (List ℕ) → Bool
fits [] [] = true
fits [] (word ∷ words) = false
fits (f ∷ form) [] = false
fits (Some f ∷ form) (word ∷ words) = fits form words && bytes_eq word f
fits (None ∷ form) (word ∷ words) = fits form words

infixl 10 ◌>>=◌
-- what follows, unless there is a fault already
abbrev pub ◌>>=◌ : {A B : Type 0} → Result A Refusal → (A → Result B Refusal) → Result B Refusal
(Ok x) >>= f = f x
(Err e) >>= f = Err e

-- what the words say, from left to right
abbrev pub read : {A : Type 0} (form : List Word) → Made A form → List (List ℕ) → Result A Refusal
read [] made [] = Ok made
read (Fixed f ∷ form) made (word ∷ words) = read form made words
read (Number low high ∷ form) made (word ∷ words) = do
  number ← number_word low high word
  read form (made number) words
read (Name ∷ form) made (word ∷ words) = do
  name ← name_word word
  read form (made name) words
read _ made _ = Err BadLine

-- what words say, by the first form that they fit
unfoldable pub form_says : {A : Type 0} → List (Form A) → List (List ℕ) → Result A Refusal
form_says [] words = Err BadLine
form_says (form ∷ forms) words = if fits (map fixed form.0) words then read form.0 form.1 words else form_says forms words

-- the words of a line, unless it is longer than 200 bytes
unfoldable pub words_in : List ℕ → Result (List (List ℕ)) Refusal
words_in line = if nat_lt 200 (length line) then Err BadLine else Ok (words_of line)

-- what a line says, of which these are the forms
abbrev pub line_says : {A : Type 0} → List (Form A) → List ℕ → Result A Refusal
line_says forms line = words_in line >>= form_says forms
