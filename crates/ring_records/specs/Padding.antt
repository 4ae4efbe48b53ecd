-- Names padded with zero bytes, as an array keeps them.
use Rattle.std.specs.Prelude.{ℕ, true, ◌≡◌, ◌-◌, ◌≤◌, List, ◌++◌, length, take, replicate}
use Rattle.std.proofs.Common.{sym, length-take, arith}
use Rattle.ring_records.specs.Names.{is_name}

-- the bytes of a name, and zeros behind them up to 16
abbrev pub padded : List ℕ → List ℕ
padded bytes = bytes ++ replicate (16 - length bytes) 0

-- what an array and a size keep: the name stands in front, and zeros behind it
pub record IsPadded (text : List ℕ) (size : ℕ) : Type 0 where
  pub fits : size ≤ 16
  pub pads : text ≡ padded (take size text)
  pub full : length text ≡ 16
  pub name : is_name (take size text) ≡ true

pub padded_ok : (text : List ℕ) (size : ℕ) → IsPadded text size → padded (take size text) ≡ text
padded_ok text size kept = sym kept.pads

pub size_ok : (text : List ℕ) (size : ℕ) → IsPadded text size → length (take size text) ≡ size
size_ok text size kept = let fits = kept.fits in let full = kept.full in omega (arith, length-take size text)
