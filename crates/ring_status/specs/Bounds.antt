-- The bounds by which batches and checkpoints are counted.
use Rattle.std.specs.Prelude.{ℕ, ◌+◌, ◌-◌, ◌*◌, ◌==◌, List, [], ◌∷◌, ◌++◌, take, codes}
use Rattle.std.specs.List.{after_first, before_first}
use Rattle.ring_status.specs.declared.bound.Bound.{Bound}
use Rattle.ring_status.specs.declared.bound.Bound.TheVariants as up_to

-- all of them, as they rise
unfoldable pub bounds : List Bound
bounds =
    up_to.Micros200 ∷ up_to.Millis1 ∷ up_to.Millis5 ∷ up_to.Millis25 ∷ up_to.Millis100 ∷ up_to.Millis500 ∷ up_to.Millis2500
    ∷ up_to.Seconds10 ∷ []

-- a bound in seconds
abbrev pub seconds_text : Bound → List ℕ
seconds_text up_to.Micros200 = codes "0.0002"
seconds_text up_to.Millis1 = codes "0.001"
seconds_text up_to.Millis5 = codes "0.005"
seconds_text up_to.Millis25 = codes "0.025"
seconds_text up_to.Millis100 = codes "0.1"
seconds_text up_to.Millis500 = codes "0.5"
seconds_text up_to.Millis2500 = codes "2.5"
seconds_text up_to.Seconds10 = codes "10"

-- the number that has these digits behind those of another
abbrev pub with_digits : ℕ → List ℕ → ℕ
with_digits n [] = n
with_digits n (digit ∷ digits) = with_digits (10 * n + (digit - 48)) digits

-- What a decimal number of seconds is in microseconds: the seconds before its point, and the six digits behind it, of which
-- zeros at the end need not stand there.
abbrev pub micros_in : List ℕ → ℕ
micros_in text =
    1_000_000 * with_digits 0 (before_first (λ byte. byte == 46) text)
    + with_digits 0 (take 6 (after_first (λ byte. byte == 46) text ++ codes "000000"))

-- a bound in microseconds
abbrev pub micros_of : Bound → ℕ
micros_of bound = micros_in (seconds_text bound)
