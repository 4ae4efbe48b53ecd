-- Bytes that are put into a text.
use Rattle.std.specs.Prelude.{ℕ, ◌≡◌, ◌+◌, ◌<◌, List, ◌++◌, length, take, drop, slice_index}

-- each of them is a byte
abbrev pub AreBytes : List ℕ → Type 0
AreBytes bytes = (i : ℕ) → slice_index bytes i < 256

-- the text was put at an offset, and ends at another; what stands behind it has not changed
pub record Puts (from to : ℕ) (text old new : List ℕ) : Type 0 where
  pub to_is : to ≡ from + length text
  pub front : take to new ≡ take from old ++ text
  pub back : drop to new ≡ drop to old
