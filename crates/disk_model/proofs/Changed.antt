-- Images that differ in one range alone: what a write puts there, and what a stop leaves of it.
use Rattle.std.proofs.Common.{◌≡◌, inl, inr, ⊎_elim, ℕ, ◌+◌, ◌≤◌, ◌<◌, List, [], ◌∷◌, ◌++◌, length, get_or, refl, sym, ◌∙◌, subst, arith}
use Rattle.std.proofs.lemmas.Bool.{cases_lt}
use Rattle.std.proofs.lemmas.List.{get_or_past}
use Rattle.disk_model.specs.Disk.{Disk, IsTorn}
use Rattle.disk_model.specs.Synced.{IsSynced}
use Rattle.disk_model.specs.Calls.{Puts, Changes}
use Rattle.disk_model.proofs.Ranges.{puts_sizes}

-- one write since the last sync, and then a stop
pub torn_changes : (off n : ℕ) (disk : Disk) (new : List ℕ) → IsSynced disk → IsTorn disk.stable (disk.ranges ++ (off, n) ∷ []) new → Changes off n disk.image new
torn_changes off n disk new is torn =
    let here : IsTorn disk.image ((off, n) ∷ []) new =
    subst (λ (s : List ℕ). IsTorn s ((off, n) ∷ []) new) is.stable (subst (λ (rs : List (ℕ × ℕ)). IsTorn disk.stable (rs ++ (off, n) ∷ []) new) is.ranges torn) in
    record { no_shorter = here.no_shorter; no_longer = omega (arith, here.no_longer); same = λ i lt out. here.same i lt (out, tt) }

pub puts_changes : (off : ℕ) (bytes old new : List ℕ) → Puts off bytes old new → Changes off (length bytes) old new
puts_changes off bytes old new put =
    let sizes = puts_sizes off bytes old new put in
    record { no_shorter = sizes.0; no_longer = sizes.1; same = λ i lt out. put.others i out }

-- a range within another
pub widen : (off n from m : ℕ) (old new : List ℕ) → from ≤ off → off + n ≤ from + m → Changes off n old new → Changes from m old new
widen off n from m old new above below change = record {
  no_shorter = change.no_shorter;
  no_longer = omega (arith, change.no_longer, below);
  same = λ i lt out. change.same i lt (⊎_elim (λ (b : i < from). inl (omega (arith, b, above))) (λ (a : from + m ≤ i). inr (omega (arith, a, below))) out);
}

pub changes_trans : (off n : ℕ) (old mid new : List ℕ) → Changes off n old mid → Changes off n mid new → Changes off n old new
changes_trans off n old mid new first second = record {
  no_shorter = omega (arith, first.no_shorter, second.no_shorter);
  no_longer = omega (arith, first.no_longer, second.no_longer);
  same = λ i lt out. second.same i (omega (arith, lt, first.no_shorter)) out ∙ first.same i lt out;
}

-- a byte before the range, within the old image
pub byte_below : (off n : ℕ) (old new : List ℕ) → Changes off n old new → (i : ℕ) → i < off → i < length old → get_or new i 0 ≡ get_or old i 0
byte_below off n old new change i below lt = change.same i lt (inl below)

-- a byte behind the range: the same, or past both ends
pub byte_above : (off n : ℕ) (old new : List ℕ) → Changes off n old new → (i : ℕ) → off + n ≤ i → get_or new i 0 ≡ get_or old i 0
byte_above off n old new change i above =
    ⊎_elim (λ (lt : i < length old). change.same i lt (inr above))
    (λ (past : length old ≤ i). get_or_past new i 0 (omega (arith, change.no_longer, past, above)) ∙ sym (get_or_past old i 0 past))
    (cases_lt i (length old))
