-- Bytes in the memory of a device: the image is their front, and all behind it is 0.
use Rattle.std.proofs.Common.{◌≡◌, ◌⊎◌, inl, inr, ⊎_elim, ℕ, ◌+◌, ◌-◌, ◌≤◌, ◌<◌, max, List, ◌++◌}
use Rattle.std.proofs.Common.{length, take, drop, get_or, sym, ◌∙◌, ap, subst, if◌then◌else◌, arith, length-append, length-take, length-drop}
use Rattle.std.proofs.lemmas.Bool.{cases_lt}
use Rattle.std.proofs.lemmas.List.{get_or-take, get_or-drop, get_or_append_left, get_or-append_right, get_or-append-add, get_or_past, ext_get_or, get_or-replicate, length-replicate}
use Rattle.std.proofs.Common.{replicate}
use Rattle.disk_model.specs.Calls.{IsPart, Puts}
use Rattle.disk_model.specs.Old.{is_stamped, old_byte}

-- the front has each byte, as the rest is 0
pub image_at : (size : ℕ) (bytes : List ℕ) → ((i : ℕ) → size ≤ i → get_or bytes i 0 ≡ 0) → (i : ℕ) → get_or (take size bytes) i 0 ≡ get_or bytes i 0
image_at size bytes blank i =
    ⊎_elim (λ lt. get_or-take size bytes i 0 lt)
    (λ le. get_or_past (take size bytes) i 0 (omega (arith, length-take size bytes, le)) ∙ sym (blank i le))
    (cases_lt i size)

-- a memory of zeros has no byte yet
pub zeros : (limit i : ℕ) → get_or (replicate {A = ℕ} limit 0) i 0 ≡ 0
zeros limit i =
    ⊎_elim (λ lt. get_or-replicate limit i 0 0 lt)
    (λ past. get_or_past (replicate {A = ℕ} limit 0) i 0 (omega (arith, length-replicate {A = ℕ} limit 0, past)))
    (cases_lt i limit)

-- what is read out of the memory is part of the image
pub part : (size : ℕ) (bytes : List ℕ) → ((i : ℕ) → size ≤ i → get_or bytes i 0 ≡ 0) → (at n : ℕ) → IsPart at (take n (drop at bytes)) (take size bytes)
part size bytes blank at n = λ i lt.
    get_or-take n (drop at bytes) i 0 (omega (arith, lt, length-take n (drop at bytes))) ∙ (get_or-drop at bytes i 0 ∙ sym (image_at size bytes blank (at + i)))

module _ (bytes : List ℕ) (at : ℕ) (piece : List ℕ) (fits : at + length piece ≤ length bytes) where
  abbrev end : ℕ
  end = at + length piece

  abbrev whole : List ℕ
  whole = take at bytes ++ piece ++ drop end bytes

  front : length (take at bytes) ≡ at
  front = omega (arith, length-take at bytes)

  both : length (take at bytes ++ piece) ≡ end
  both = omega (arith, length-append (take at bytes) piece, front)

  pub whole_length : length whole ≡ length bytes
  whole_length = omega (arith, length-append (take at bytes ++ piece) (drop end bytes), both, length-drop end bytes)

  pub inside : (i : ℕ) → i < length piece → get_or whole (at + i) 0 ≡ get_or piece i 0
  inside i lt =
      get_or_append_left (take at bytes ++ piece) (drop end bytes) 0 (at + i) (omega (arith, both))
      ∙ ap (λ (k : ℕ). get_or (take at bytes ++ piece) (k + i) 0) (sym front) ∙ get_or-append-add (take at bytes) piece i 0

  below : (i : ℕ) → i < at → get_or whole i 0 ≡ get_or bytes i 0
  below i lt =
      get_or_append_left (take at bytes ++ piece) (drop end bytes) 0 i (omega (arith, both))
      ∙ get_or_append_left (take at bytes) piece 0 i (omega (arith, front)) ∙ get_or-take at bytes i 0 lt

  above : (i : ℕ) → end ≤ i → get_or whole i 0 ≡ get_or bytes i 0
  above i le =
      let same : end + (i - end) ≡ i = omega arith in
      get_or-append_right (take at bytes ++ piece) (drop end bytes) end i 0 both le
      ∙ get_or-drop end bytes (i - end) 0 ∙ ap (λ (k : ℕ). get_or bytes k 0) same

  pub others : (i : ℕ) → (i < at) ⊎ (end ≤ i) → get_or whole i 0 ≡ get_or bytes i 0
  others i out = ⊎_elim (λ b. below i b) (λ a. above i a) out

-- where this much is used after the piece was put there
pub record Ends (size at n used : ℕ) : Type 0 where
  pub some : 0 < n → used ≡ max size (at + n)
  pub none : n ≡ 0 → used ≡ size

module _ (bytes : List ℕ) (size at : ℕ) (piece : List ℕ) (fits : at + length piece ≤ length bytes) (size_fits : size ≤ length bytes) (blank : (i : ℕ) → size ≤ i → get_or bytes i 0 ≡ 0)
    (used : ℕ) (after : List ℕ) (some : 0 < length piece → used ≡ max size (at + length piece)) (none : length piece ≡ 0 → used ≡ size)
    (is : after ≡ take at bytes ++ piece ++ drop (at + length piece) bytes) where
  abbrev same_at : ℕ → Type 0
  same_at i = get_or after i 0 ≡ get_or bytes i 0

  elsewhere : (i : ℕ) → (i < at) ⊎ (at + length piece ≤ i) → same_at i
  elsewhere i out = ap (λ (l : List ℕ). get_or l i 0) is ∙ others bytes at piece fits i out

  pub after_length : length after ≡ length bytes
  after_length = ap length is ∙ whole_length bytes at piece fits

  pub used_fits : used ≤ length after
  used_fits =
      ⊎_elim (λ (lt : length piece < 1). let same = none (omega (arith, lt)) in omega (arith, same, size_fits, after_length))
      (λ (le : 1 ≤ length piece). let more = some le in omega (arith, more, fits, size_fits, after_length))
      (cases_lt (length piece) 1)

  not_below : (size ≤ used) × (at + length piece ≤ used ⊎ (length piece ≡ 0))
  not_below =
      ⊎_elim (λ (lt : length piece < 1). (omega (arith, lt, none), inr (omega (arith, lt))))
      (λ (le : 1 ≤ length piece). (omega (arith, le, some), inl (omega (arith, le, some)))) (cases_lt (length piece) 1)

  pub still_blank : (i : ℕ) → used ≤ i → get_or after i 0 ≡ 0
  still_blank i le =
      let out : (i < at) ⊎ (at + length piece ≤ i) = ⊎_elim (λ (ends : at + length piece ≤ used). inr (omega (arith, ends, le)))
      (λ (no_byte : length piece ≡ 0). ⊎_elim (λ (b : i < at). inl b) (λ (a : at ≤ i). inr (omega (arith, no_byte, a))) (cases_lt i at)) not_below.1 in
      elsewhere i out ∙ blank i (omega (arith, not_below.0, le))

  -- the piece was put into the image
  pub puts : (off : ℕ) → at ≡ off → Puts off piece (take size bytes) (take used after)
  puts off is_off =
      let put : Puts at piece (take size bytes) (take used after) = record {
        size = λ positive. omega (arith, length-take size bytes, length-take used after, after_length, some positive, fits, size_fits);
        none = λ no_byte. omega (arith, length-take size bytes, length-take used after, after_length, none no_byte, size_fits);
        here = λ i lt. image_at used after still_blank (at + i) ∙ (ap (λ (l : List ℕ). get_or l (at + i) 0) is ∙ inside bytes at piece fits i lt);
        others = λ i out. image_at used after still_blank i ∙ (elsewhere i out ∙ sym (image_at size bytes blank i));
      } in
      subst (λ (o : ℕ). Puts o piece (take size bytes) (take used after)) is_off put

-- ---- what was there before

-- the old bytes over the image are those over the memory
pub before_at : (stamps : List ℕ) (stretch : ℕ) (old : List ℕ) (size : ℕ) (bytes : List ℕ) → ((i : ℕ) → size ≤ i → get_or bytes i 0 ≡ 0)
    → (i : ℕ) → old_byte stamps stretch old bytes i ≡ old_byte stamps stretch old (take size bytes) i
before_at stamps stretch old size bytes blank i = ap (λ (byte : ℕ). if is_stamped stamps stretch i then get_or old i 0 else byte) (sym (image_at size bytes blank i))

-- the old bytes to the old end are the stable image
pub taken_back : (stable after : List ℕ) (size : ℕ) → size ≡ length stable → length stable ≤ length after
    → ((i : ℕ) → i < length after → get_or after i 0 ≡ get_or stable i 0) → take size after ≡ stable
taken_back stable after size ends fits same =
    let sized : length (take size after) ≡ length stable = omega (arith, length-take size after, ends, fits) in
    ext_get_or 0 (take size after) stable sized (λ i lt. get_or-take size after i 0 (omega (arith, lt, sized, ends)) ∙ same i (omega (arith, lt, sized, fits)))

-- ---- what a read of a part says

-- a part that lies within the image, as one equation
pub part_within : (off : ℕ) (bytes image : List ℕ) → IsPart off bytes image → off + length bytes ≤ length image → bytes ≡ take (length bytes) (drop off image)
part_within off bytes image is within =
    let same : length bytes ≡ length (take (length bytes) (drop off image)) = omega (arith, length-take (length bytes) (drop off image), length-drop off image, within) in
    ext_get_or 0 bytes (take (length bytes) (drop off image)) same (λ i lt. is i lt ∙ (sym (get_or-drop off image i 0) ∙ sym (get_or-take (length bytes) (drop off image) i 0 lt)))
