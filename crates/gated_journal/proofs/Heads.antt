-- The head of a frame: its count and the length of its records.
use Rattle.std.proofs.Common.{◌≡◌, ℕ, zero, suc, ◌+◌, ◌*◌, ◌-◌, ◌^◌, ◌<◌, ◌≤◌, List, [], ◌∷◌, ◌++◌, length, take, drop, get_or, refl, sym, ◌∙◌, ap, arith, length-append, length-take, length-drop, take-append-drop}
use Rattle.std.specs.Int.{w16, w32, to_be_bytes, from_be_bytes}
use Rattle.std.proofs.lemmas.List.{take_at, drop-drop}
use Rattle.std.proofs.lemmas.Nat.{be_bytes_2, be_bytes_4, from_be_bytes-to_be_bytes_2, from_be_bytes-to_be_bytes_4}
use Rattle.ring_records.specs.declared.input.Input.{Input}
use Rattle.ring_records.specs.Record.{record_of}
use Rattle.ring_records.specs.RecordLists.{AreBytes}
use Rattle.ring_records.proofs.Records.{record-short}
use Rattle.gated_journal.specs.Frames.{records, body, HaveRecords, IsBatch}
use Rattle.gated_journal.specs.NextFrame.{HasHead}

-- the count and the length that stand at the head
abbrev pub count_at : List ℕ → ℕ
count_at tail = from_be_bytes w16 (get_or tail 0 0 ∷ get_or tail 1 0 ∷ [])

abbrev pub size_at : List ℕ → ℕ
size_at tail = from_be_bytes w32 (get_or tail 2 0 ∷ get_or tail 3 0 ∷ get_or tail 4 0 ∷ get_or tail 5 0 ∷ [])

pub records-short : (layout : ℕ) (inputs : List Input) → HaveRecords layout inputs → length (records inputs) ≤ 35 * length inputs
records-short layout [] have = omega arith
records-short layout (x ∷ inputs) have = omega (arith, record-short x have.0.0, records-short layout inputs have.1, length-append (record_of x) (records inputs))

-- what the head of a frame shows
pub record Shows (tail : List ℕ) (batch : List Input) : Type 0 where
  pub count : length batch ≡ count_at tail
  pub size : length (records batch) ≡ size_at tail
  pub long : 6 + length (records batch) ≤ length tail
  pub found : records batch ≡ take (length (records batch)) (drop 6 tail)

pub shows : {layout : ℕ} (tail : List ℕ) (batch : List Input) (rest : List ℕ) → IsBatch layout batch → tail ≡ body batch ++ rest → Shows tail batch
shows {layout = layout} tail batch rest is framed =
    let behind : List ℕ = records batch ++ rest in
    let n = length batch in
    let m = length (records batch) in
    let few : n < 2 ^ 16 = omega (arith, is.few) in
    let short : m < 2 ^ 32 = omega (arith, records-short layout batch is.have, is.few) in
    let whole : tail ≡ to_be_bytes w16 n ++ (to_be_bytes w32 m ++ behind) = framed in
    record {
      count = sym (ap count_at whole ∙ from_be_bytes-to_be_bytes_2 n few);
      size = sym (ap size_at whole ∙ from_be_bytes-to_be_bytes_4 m short);
      long = omega (arith, ap length whole, length-append (records batch) rest);
      found = sym (ap (λ (l : List ℕ). take m (drop 6 l)) whole ∙ take_at (records batch) rest m refl);
    }

-- the first six bytes
six : (tail : List ℕ) → 6 ≤ length tail → tail ≡ get_or tail 0 0 ∷ get_or tail 1 0 ∷ get_or tail 2 0 ∷ get_or tail 3 0 ∷ get_or tail 4 0 ∷ get_or tail 5 0 ∷ drop 6 tail
six [] long = absurd (omega arith)
six (a ∷ []) long = absurd (omega arith)
six (a ∷ b ∷ []) long = absurd (omega arith)
six (a ∷ b ∷ c ∷ []) long = absurd (omega arith)
six (a ∷ b ∷ c ∷ d ∷ []) long = absurd (omega arith)
six (a ∷ b ∷ c ∷ d ∷ e ∷ []) long = absurd (omega arith)
six (a ∷ b ∷ c ∷ d ∷ e ∷ f ∷ rest) long = refl

two : (t : List ℕ) → AreBytes t → (i : ℕ) → get_or (get_or t 0 0 ∷ get_or t 1 0 ∷ []) i 0 < 256
two t are zero = are 0
two t are (suc zero) = are 1
two t are (suc (suc i)) = omega arith

four : (t : List ℕ) → AreBytes t → (i : ℕ) → get_or (get_or t 2 0 ∷ get_or t 3 0 ∷ get_or t 4 0 ∷ get_or t 5 0 ∷ []) i 0 < 256
four t are zero = are 2
four t are (suc zero) = are 3
four t are (suc (suc zero)) = are 4
four t are (suc (suc (suc zero))) = are 5
four t are (suc (suc (suc (suc i)))) = omega arith

pub head : (tail : List ℕ) → AreBytes tail → 6 ≤ length tail → 1 ≤ count_at tail → count_at tail ≤ 64 → size_at tail ≤ length tail - 6
    → HasHead tail (count_at tail) (take (size_at tail) (drop 6 tail))
head tail are long some few fits =
    let size = size_at tail in
    let found : List ℕ = take size (drop 6 tail) in
    let size_is : length found ≡ size = omega (arith, length-take size (drop 6 tail), length-drop 6 tail, fits, long) in
    let count_bytes : to_be_bytes w16 (count_at tail) ≡ get_or tail 0 0 ∷ get_or tail 1 0 ∷ [] =
    be_bytes_2 (get_or tail 0 0 ∷ get_or tail 1 0 ∷ []) (count_at tail) refl (two tail are) refl in
    let size_bytes : to_be_bytes w32 (length found) ≡ get_or tail 2 0 ∷ get_or tail 3 0 ∷ get_or tail 4 0 ∷ get_or tail 5 0 ∷ [] =
    be_bytes_4 (get_or tail 2 0 ∷ get_or tail 3 0 ∷ get_or tail 4 0 ∷ get_or tail 5 0 ∷ []) (length found) refl (four tail are) size_is in
    let parts : drop 6 tail ≡ found ++ drop (6 + length found) tail =
    sym (take-append-drop size (drop 6 tail)) ∙ ap (λ (l : List ℕ). found ++ l) (drop-drop size 6 tail ∙ ap (λ (k : ℕ). drop (6 + k) tail) (sym size_is)) in
    record {
      some = some;
      few = few;
      whole = six tail long ∙ ap (λ (l : List ℕ). get_or tail 0 0 ∷ get_or tail 1 0 ∷ get_or tail 2 0 ∷ get_or tail 3 0 ∷ get_or tail 4 0 ∷ get_or tail 5 0 ∷ l) parts
          ∙ (λ i. sym count_bytes i ++ (sym size_bytes i ++ (found ++ drop (6 + length found) tail)));
      alone = λ layout batch rest is framed. let s = shows tail batch rest is framed in (s.count, s.found ∙ ap (λ (k : ℕ). take k (drop 6 tail)) s.size);
    }
