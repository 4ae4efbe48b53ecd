-- What a write adds to a front that is written.
use Rattle.std.proofs.Common.{◌≡◌, List, ◌++◌, ℕ, take, drop, ap, sym, ◌∙◌, append_assoc, Option}
use Rattle.std.proofs.lemmas.List.{take-append-drop}
use Rattle.std.proofs.KnownBytes.{Appends-trans}
use Rattle.std.specs.Io.KnownBytes.{Appends}

-- a write took n more bytes
pub wrote_more : (old now new : Option (List ℕ)) (bytes front rest left : List ℕ) (n : ℕ) → bytes ≡ front ++ rest → left ≡ drop n rest → Appends old now front → Appends now new (take n rest)
    → (longer : List ℕ) × (bytes ≡ longer ++ left) × Appends old new longer
wrote_more old now new bytes front rest left n whole same before took = (
  front ++ take n rest,
  whole ∙ ap (λ l. front ++ l) (sym (take-append-drop n rest)) ∙ sym (append_assoc front (take n rest) (drop n rest)) ∙ ap (λ l. (front ++ take n rest) ++ l) (sym same),
  Appends-trans old now new front (take n rest) before took,
)
