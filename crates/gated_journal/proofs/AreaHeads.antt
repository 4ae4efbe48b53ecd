-- The head of an area, read from a device that may end within it.
use Rattle.std.proofs.Common.{◌≡◌, ◌⊎◌, inl, inr, ⊎_elim, ℕ, zero, suc, ◌+◌, ◌*◌, ◌-◌, ◌<◌, ◌≤◌, List, ◌++◌, length, drop, replicate, get_or, refl, sym, ◌∙◌, ap, arith, length-append, length-drop}
use Rattle.std.proofs.lemmas.Bool.{cases_lt}
use Rattle.std.proofs.lemmas.List.{get_or-drop, get_or_append_left, get_or-append_right, get_or_past, length-replicate}
use Rattle.disk_model.specs.Calls.{IsPart}
use Rattle.disk_model.proofs.Images.{zeros}
use Rattle.ring_records.specs.Admission.{newest, oldest_area}
use Rattle.gated_journal.specs.Areas.{IsLayout}
use Rattle.gated_journal.specs.InUse.{IsHeadOf}
use Rattle.gated_journal.specs.Reading.{number_at}
use Rattle.gated_journal.specs.declared.area.Head.{Head}

-- zeros, of which the first bytes were read
pub read_front : (start there : ℕ) (buf image : List ℕ) → IsPart start buf image → length buf ≡ there → there ≤ 14 → (there ≡ 14) ⊎ (length image ≤ start + there)
    → IsPart start (buf ++ drop there (replicate {A = ℕ} 14 0)) image
read_front start there buf image part long few ends i lt =
    let rest = drop there (replicate {A = ℕ} 14 0) in
    ⊎_elim (λ (below : i < there). get_or_append_left buf rest 0 i (omega (arith, below, long)) ∙ part i (omega (arith, below, long)))
    (λ (above : there ≤ i).
    let past : length image ≤ start + i =
    ⊎_elim (λ (all : there ≡ 14). absurd (omega (arith, all, above, lt, long, length-append buf rest, length-drop there (replicate {A = ℕ} 14 0), length-replicate {A = ℕ} 14 0))) (λ (end : length image ≤ start + there). omega (arith, end, above)) ends in
    get_or-append_right buf rest there i 0 long above ∙ get_or-drop there (replicate {A = ℕ} 14 0) (i - there) 0 ∙ zeros 14 (there + (i - there)) ∙ sym (get_or_past image (start + i) 0 past))
    (cases_lt i there)

-- nothing was read, as the device ends before
pub read_none : (start : ℕ) (image : List ℕ) → length image ≤ start → IsPart start (replicate {A = ℕ} 14 0) image
read_none start image ends i lt = zeros 14 i ∙ sym (get_or_past image (start + i) 0 (omega (arith, ends)))

pub number_moved : (k off from : ℕ) (xs ys : List ℕ) → ((i : ℕ) → i < k → get_or xs (off + i) 0 ≡ get_or ys (from + i) 0) → number_at k off xs ≡ number_at k from ys
number_moved zero off from xs ys same = refl
number_moved (suc k) off from xs ys same =
    let rest = number_moved k off from xs ys (λ i lt. same i (omega (arith, lt))) in
    let last = same k (omega arith) in
    λ i. rest i * 256 + last i

-- areas of a layout are read, or not
pub cases_layout : (layout : ℕ) → IsLayout layout ⊎ (IsLayout layout → ⊥)
cases_layout layout =
    ⊎_elim (λ (old : layout < oldest_area). inr (λ known. omega (arith, old, known.0)))
    (λ (from : oldest_area ≤ layout). ⊎_elim (λ (new : newest < layout). inr (λ known. omega (arith, new, known.1))) (λ (to : layout ≤ newest). inl (from, to)) (cases_lt newest layout)) (cases_lt layout oldest_area)

-- the head that is read is the area's
pub head_there : (start : ℕ) (bytes image : List ℕ) (head : Head) → IsPart start bytes image → length bytes ≡ 14 → IsHeadOf head 0 bytes → IsHeadOf head start image
head_there start bytes image head part long is =
    let at : (i j : ℕ) → i < 14 → start + i ≡ j → get_or bytes i 0 ≡ get_or image j 0 = λ i j lt same. part i (omega (arith, lt, long)) ∙ ap (λ (k : ℕ). get_or image k 0) same in
    record {
      gate = is.gate ∙ at 0 start (omega arith) (omega arith);
      layout = is.layout ∙ at 1 (start + 1) (omega arith) (omega arith);
      epoch = is.epoch ∙ number_moved 8 2 (start + 2) bytes image (λ i lt. at (2 + i) (start + 2 + i) (omega (arith, lt)) (omega arith));
      size = is.size ∙ number_moved 4 10 (start + 10) bytes image (λ i lt. at (10 + i) (start + 10 + i) (omega (arith, lt)) (omega arith));
    }
