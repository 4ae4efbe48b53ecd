-- What reading finds in bytes that may begin with the record of an input, from left to right, with the first fault that is met.
use Rattle.std.specs.Prelude.{ℕ, ◌≡◌, ◌==◌, ◌-◌, ◌≤◌, nat_lt, nat_le, ◌&&◌, if◌then◌else◌, List, [], ◌∷◌, length, take, drop, Result, Ok, Err}
use Rattle.std.specs.Int.{Width, w32, w64, byte_len, from_be_bytes}
use Rattle.ring_records.specs.declared.candidate.Candidate.{Candidate}
use Rattle.ring_records.specs.declared.input.Input.{Input}
use Rattle.ring_records.specs.declared.input.Input.TheVariants.{Stand, Take, Acked, Retire}
use Rattle.ring_records.specs.declared.key.Key.{Key}
use Rattle.ring_records.specs.declared.msg.Msg.TheVariants.{Token, Elected}
use Rattle.ring_records.specs.declared.record.RecordFault.{RecordFault}
use Rattle.ring_records.specs.declared.record.RecordFault.TheVariants.{Short, Kind, Name, Number}
use Rattle.ring_records.specs.Names.{is_name}
use Rattle.ring_records.specs.Record.{record_of, HasRecord}

-- the bytes begin with the record of x, n bytes long
pub record BeginsWith (bytes : List ℕ) (x : Input) (n : ℕ) : Type 0 where
  pub has : HasRecord x
  pub len : n ≡ length (record_of x)
  pub whole : n ≤ length bytes
  pub front : take n bytes ≡ record_of x

infixl 10 ◌>>=◌
abbrev pub ◌>>=◌ : {A B : Type 0} → Result A RecordFault → (A → Result B RecordFault) → Result B RecordFault
(Ok x) >>= f = f x
(Err e) >>= f = Err e

-- what a part of the reader returned, seen by view, is what the definition finds
abbrev pub Finds : {X Y : Type 0} → (X → Y) → Result X RecordFault → Result Y RecordFault → Type 0
Finds view (Ok x) found = found ≡ Ok (view x)
Finds view (Err e) found = found ≡ Err e

-- Each part is a value and the bytes after it.
abbrev pub byte_at : List ℕ → Result (ℕ × List ℕ) RecordFault
byte_at [] = Err Short
byte_at (b ∷ rest) = Ok (b, rest)

abbrev pub number_at : Width → List ℕ → Result (ℕ × List ℕ) RecordFault
number_at w bytes = if nat_lt (length bytes) (byte_len w) then Err Short else Ok (from_be_bytes w (take (byte_len w) bytes), drop (byte_len w) bytes)

-- the number, where it lies from low to high
abbrev pub within : ℕ → ℕ → ℕ × List ℕ → Result (ℕ × List ℕ) RecordFault
within low high n = if nat_le low n.0 && nat_le n.0 high then Ok n else Err Number

-- A name's length and all its bytes are there before it is judged.
unfoldable pub name_at : List ℕ → Result (List ℕ × List ℕ) RecordFault
name_at bytes = do
  size ← byte_at bytes
  if nat_lt (length size.1) size.0 then Err Short else (if is_name (take size.0 size.1) then Ok (take size.0 size.1, drop size.0 size.1) else Err Name)

unfoldable pub key_at : List ℕ → Result (Key × List ℕ) RecordFault
key_at bytes = do
  name ← name_at bytes
  number ← number_at w32 name.1
  term ← within 1 999999999 number
  Ok (record { group = name.0; term = term.0 }, term.1)

unfoldable pub bid_at : List ℕ → Result (ℕ × List ℕ) RecordFault
bid_at bytes = do
  number ← number_at w32 bytes
  within 0 999999999 number

unfoldable pub candidate_at : List ℕ → Result (Candidate × List ℕ) RecordFault
candidate_at bytes = do
  bid ← bid_at bytes
  number ← byte_at bid.1
  node ← within 1 16 number
  Ok (record { bid = bid.0; node = node.0 }, node.1)

-- what stands behind the kind byte of a Stand
unfoldable pub stand_at : List ℕ → Result (Input × List ℕ) RecordFault
stand_at bytes = do
  key ← key_at bytes
  bid ← bid_at key.1
  Ok (Stand key.0 bid.0, bid.1)

-- what stands behind the kind byte of a Take
unfoldable pub take_at : List ℕ → Result ((ℕ × Key × Candidate) × List ℕ) RecordFault
take_at bytes = do
  msg_no ← number_at w64 bytes
  key ← key_at msg_no.1
  c ← candidate_at key.1
  Ok ((msg_no.0, key.0, c.0), c.1)

unfoldable pub token_at : List ℕ → Result (Input × List ℕ) RecordFault
token_at bytes = do
  x ← take_at bytes
  Ok (Take x.0.0 (Token x.0.1 x.0.2), x.1)

unfoldable pub elected_at : List ℕ → Result (Input × List ℕ) RecordFault
elected_at bytes = do
  x ← take_at bytes
  Ok (Take x.0.0 (Elected x.0.1 x.0.2), x.1)

-- what stands behind the kind byte of an Acked
unfoldable pub acked_at : List ℕ → Result (Input × List ℕ) RecordFault
acked_at bytes = do
  upto ← number_at w64 bytes
  Ok (Acked upto.0, upto.1)

-- what stands behind the kind byte of a Retire
unfoldable pub retire_at : List ℕ → Result (Input × List ℕ) RecordFault
retire_at bytes = do
  key ← key_at bytes
  Ok (Retire key.0.group key.0.term, key.1)

unfoldable pub input_of : ℕ → List ℕ → Result (Input × List ℕ) RecordFault
input_of kind bytes =
    if kind == 1 then stand_at bytes
    else (if kind == 2 then token_at bytes
    else (if kind == 3 then elected_at bytes
    else (if kind == 4 then acked_at bytes
    else (if kind == 5 then retire_at bytes
    else Err Kind))))

unfoldable pub input_at : List ℕ → Result (Input × List ℕ) RecordFault
input_at bytes = do
  kind ← byte_at bytes
  input_of kind.0 kind.1

-- the input whose record the bytes begin with, and the record's length
unfoldable pub record_read : List ℕ → Result (Input × ℕ) RecordFault
record_read bytes = do
  x ← input_at bytes
  Ok (x.0, length bytes - length x.1)
