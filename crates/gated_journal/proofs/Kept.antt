-- What stays where an image changes in one range alone.
use Rattle.std.proofs.Common.{◌≡◌, ◌⊎◌, inl, ⊎_elim, ℕ, zero, suc, ◌+◌, ◌*◌, ◌-◌, ◌<◌, ◌≤◌, List, ◌++◌, length, take, drop, get_or, refl, sym, ◌∙◌, ap, arith, length-take, length-drop, take-append-drop, inr}
use Rattle.std.proofs.lemmas.List.{drop-drop, ext_get_or, get_or-take, get_or-drop}
use Rattle.ring_records.specs.Member.{Member}
use Rattle.disk_model.specs.Calls.{Changes, Puts}
use Rattle.disk_model.proofs.Changed.{byte_below, byte_above}
use Rattle.gated_journal.specs.Reading.{number_at, HasHeader, mark, old_mark}

-- k bytes from start on are the same
pub record SameBytes (start k : ℕ) (old new : List ℕ) : Type 0 where
  pub each : (i : ℕ) → i < k → get_or new (start + i) 0 ≡ get_or old (start + i) 0

-- bytes are kept that stand whole before the range, or behind it
pub kept : (off n start k : ℕ) (old new : List ℕ) → Changes off n old new → ((start + k ≤ off) × (start + k ≤ length old)) ⊎ (off + n ≤ start) → SameBytes start k old new
kept off n start k old new change out = record {
  each = λ i lt. ⊎_elim (λ (before : (start + k ≤ off) × (start + k ≤ length old)). byte_below off n old new change (start + i) (omega (arith, before.0)) (omega (arith, before.1))) (λ behind. byte_above off n old new change (start + i) (omega (arith, behind))) out;
}

pub fewer : (start k from m : ℕ) (old new : List ℕ) → start ≤ from → from + m ≤ start + k → SameBytes start k old new → SameBytes from m old new
fewer start k from m old new low high same = record {
  each = λ i lt. let at : start + (from + i - start) ≡ from + i = omega arith in
      ap (λ (j : ℕ). get_or new j 0) (sym at) ∙ same.each (from + i - start) (omega arith) ∙ ap (λ (j : ℕ). get_or old j 0) at;
}

pub byte_same : (start k : ℕ) (old new : List ℕ) (i : ℕ) → start ≤ i → i < start + k → SameBytes start k old new → get_or new i 0 ≡ get_or old i 0
byte_same start k old new i low high same =
    let at : start + (i - start) ≡ i = omega arith in
    ap (λ (j : ℕ). get_or new j 0) (sym at) ∙ same.each (i - start) (omega arith) ∙ ap (λ (j : ℕ). get_or old j 0) at

pub number_same : (k off : ℕ) (old new : List ℕ) → SameBytes off k old new → number_at k off new ≡ number_at k off old
number_same zero off old new same = refl
number_same (suc k) off old new same =
    let rest = number_same k off old new (fewer off (suc k) off k old new (omega arith) (omega arith) same) in
    let last = same.each k (omega arith) in
    λ i. rest i * 256 + last i

-- two lists that agree below n have the same first n items
pub take_same : (n : ℕ) (xs ys : List ℕ) → n ≤ length xs → n ≤ length ys → ((i : ℕ) → i < n → get_or xs i 0 ≡ get_or ys i 0) → take n xs ≡ take n ys
take_same n xs ys in_xs in_ys same =
    ext_get_or 0 (take n xs) (take n ys) (omega (arith, length-take n xs, length-take n ys))
    (λ i lt. let below : i < n = omega (arith, lt, length-take n xs) in get_or-take n xs i 0 below ∙ same i below ∙ sym (get_or-take n ys i 0 below))

-- the same from n on
pub drop_same : (n : ℕ) (xs ys : List ℕ) → length xs ≡ length ys → ((i : ℕ) → n ≤ i → get_or xs i 0 ≡ get_or ys i 0) → drop n xs ≡ drop n ys
drop_same n xs ys long same =
    ext_get_or 0 (drop n xs) (drop n ys) (omega (arith, length-drop n xs, length-drop n ys, long))
    (λ i lt. get_or-drop n xs i 0 ∙ same (n + i) (omega arith) ∙ sym (get_or-drop n ys i 0))

pub part_same : (start k : ℕ) (old new : List ℕ) → start + k ≤ length old → start + k ≤ length new → SameBytes start k old new → take k (drop start new) ≡ take k (drop start old)
part_same start k old new in_old in_new same =
    take_same k (drop start new) (drop start old) (omega (arith, length-drop start new)) (omega (arith, length-drop start old))
    (λ i lt. get_or-drop start new i 0 ∙ same.each i lt ∙ sym (get_or-drop start old i 0))

-- what a write has put stands there
pub put_behind : (off : ℕ) (bytes old new : List ℕ) → 0 < length bytes → Puts off bytes old new → drop off new ≡ bytes ++ drop (off + length bytes) new
put_behind off bytes old new some put =
    let n = length bytes in
    let size = put.size some in
    let here : take n (drop off new) ≡ bytes =
    ext_get_or 0 (take n (drop off new)) bytes (omega (arith, length-take n (drop off new), length-drop off new, size))
    (λ i lt. let below : i < n = omega (arith, lt, length-take n (drop off new)) in get_or-take n (drop off new) i 0 below ∙ get_or-drop off new i 0 ∙ put.here i below) in
    sym (take-append-drop n (drop off new)) ∙ ap (λ (l : List ℕ). l ++ drop n (drop off new)) here ∙ ap (λ (l : List ℕ). bytes ++ l) (drop-drop n off new)

-- a change behind the header leaves it
pub header_kept : (header : Member) (off n : ℕ) (old new : List ℕ) → 16 ≤ off → 16 ≤ length old → Changes off n old new → HasHeader header old → HasHeader header new
header_kept header off n old new behind long change head =
    let same : SameBytes 0 16 old new = kept off n 0 16 old new change (inl (omega (arith, behind), omega (arith, long))) in
    let in_new : 16 ≤ length new = omega (arith, long, change.no_shorter) in
    let front : take 8 new ≡ take 8 old = part_same 0 8 old new (omega (arith, long)) (omega (arith, in_new)) (fewer 0 16 0 8 old new (omega arith) (omega arith) same) in
    record {
      marked = ⊎_elim (λ (m : take 8 old ≡ mark). inl (front ∙ m)) (λ (m : take 8 old ≡ old_mark). inr (front ∙ m)) head.marked;
      node = byte_same 0 16 old new 8 (omega arith) (omega arith) same ∙ head.node;
      n = byte_same 0 16 old new 9 (omega arith) (omega arith) same ∙ head.n;
      capacity = number_same 4 10 old new (fewer 0 16 10 4 old new (omega arith) (omega arith) same) ∙ head.capacity;
      from = head.from;
      to = head.to;
      blank = number_same 2 14 old new (fewer 0 16 14 2 old new (omega arith) (omega arith) same) ∙ head.blank;
    }
