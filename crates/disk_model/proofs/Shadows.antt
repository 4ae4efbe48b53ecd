-- What is kept for a stop to bring back, over one write more.
use Rattle.std.proofs.Common.{◌≡◌, ◌⊎◌, inl, inr, ⊎_elim, ℕ, ◌+◌, ◌-◌, ◌≤◌, ◌<◌, min, max, Bool, true, false, if◌then◌else◌, List, length, get_or, sym, ◌∙◌, ap, subst, arith}
use Rattle.std.proofs.lemmas.Bool.{cases_lt}
use Rattle.disk_model.specs.Disk.{Disk, IsOutside}
use Rattle.disk_model.specs.Calls.{IsInside, IsUnsynced, Unsyncs}
use Rattle.disk_model.specs.Old.{is_stamped, old_byte}
use Rattle.disk_model.proofs.Ranges.{outside_push, inside_push}

-- the old byte reads of what is there now only its own place
same_there : (stamps : List ℕ) (stretch : ℕ) (bytes now was : List ℕ) (i : ℕ) → get_or now i 0 ≡ get_or was i 0 → old_byte stamps stretch bytes now i ≡ old_byte stamps stretch bytes was i
same_there stamps stretch bytes now was i is = ap (λ (byte : ℕ). if is_stamped stamps stretch i then get_or bytes i 0 else byte) is

-- and nothing where it is stamped
kept_there : (stamps : List ℕ) (stretch : ℕ) (bytes now was : List ℕ) (i : ℕ) → is_stamped stamps stretch i ≡ true → old_byte stamps stretch bytes now i ≡ old_byte stamps stretch bytes was i
kept_there stamps stretch bytes now was i is =
    let here : (l : List ℕ) → old_byte stamps stretch bytes l i ≡ get_or bytes i 0 = λ l. ap (λ (b : Bool). if b then get_or bytes i 0 else get_or l i 0) is in
    here now ∙ sym (here was)

-- the part of a range that lies within the limit, and the gap between the old end, size, and it
module _ (off n limit size at end : ℕ) (at_is : at ≡ min (min off limit) size) (end_is : end ≡ min off limit + min n (limit - min off limit)) where
  apart : (i : ℕ) → i < size → (i < off) ⊎ (off + n ≤ i) → (i < at) ⊎ (end ≤ i)
  apart i small out =
      ⊎_elim (λ (lt : i < at). inl lt)
      (λ (le : at ≤ i). inr (⊎_elim (λ (below : i < off). omega (arith, below, le, small, at_is, end_is)) (λ (above : off + n ≤ i). omega (arith, above, le, at_is, end_is)) out))
      (cases_lt i at)

  within : (i : ℕ) → off ≤ i → i < off + n → i < limit → (at ≤ i) × (i < end)
  within i from to small = (omega (arith, from, at_is), omega (arith, from, to, small, at_is, end_is))

  grown : (i : ℕ) → size ≤ i → i < min (off + n) limit → (at ≤ i) × (i < end)
  grown i from to = (omega (arith, from, at_is), omega (arith, from, to, at_is, end_is))

  beyond : (i : ℕ) → (i < at) ⊎ (end ≤ i) → (i < off) ⊎ (min (off + n) limit ≤ i)
  beyond i out = ⊎_elim (λ (below : i < at). inl (omega (arith, below, at_is))) (λ (above : end ≤ i). inr (omega (arith, above, at_is, end_is))) out

  module _ (old new : Disk) (un : Unsyncs off n old new) (size_is : size ≡ length old.image) (was now : ℕ → Bool) (outside : (i : ℕ) → (i < at) ⊎ (end ≤ i) → now i ≡ was i) where
    pub clean_next : length old.stable ≤ size → ((i : ℕ) → i < length old.stable → IsOutside old.ranges i → was i ≡ false) → (i : ℕ) → i < length new.stable → IsOutside new.ranges i → now i ≡ false
    clean_next no_shorter clean i lt out =
        let small : i < length old.stable = subst (λ (l : List ℕ). i < length l) un.stable lt in
        let both = outside_push old.ranges off n i (subst (λ (rs : List (ℕ × ℕ)). IsOutside rs i) un.ranges out) in
        outside i (apart i (omega (arith, small, no_shorter)) both.1) ∙ clean i small both.0

    pub marked_next : length new.image ≤ limit → length new.image ≤ max (length old.image) (min (off + n) limit) → ((i : ℕ) → i < length old.image → IsUnsynced old i → was i ≡ true)
        → ((i : ℕ) → at ≤ i → i < end → now i ≡ true) → (i : ℕ) → i < length new.image → IsUnsynced new i → now i ≡ true
    marked_next fits grows marked inside i small here =
        let kept : was i ≡ true → now i ≡ true =
        λ had. ⊎_elim (λ (lt : i < at). outside i (inl lt) ∙ had)
        (λ (le : at ≤ i). ⊎_elim (λ (lt : i < end). inside i le lt) (λ (past : end ≤ i). outside i (inr past) ∙ had) (cases_lt i end)) (cases_lt i at) in
        let below : i < length old.image → now i ≡ true =
        λ lt. ⊎_elim
        (λ (in_range : IsInside new.ranges i). ⊎_elim (λ (had : IsInside old.ranges i). kept (marked i lt (inl had)))
        (λ place. let both = within i place.0 place.1 (omega (arith, small, fits)) in inside i both.0 both.1)
        (inside_push old.ranges off n i (subst (λ (rs : List (ℕ × ℕ)). IsInside rs i) un.ranges in_range)))
        (λ (past : length new.stable ≤ i). kept (marked i lt (inr (subst (λ (l : List ℕ). length l ≤ i) un.stable past))))
        here in
        ⊎_elim below (λ (past : length old.image ≤ i). let both = grown i (omega (arith, past, size_is)) (omega (arith, past, small, grows)) in inside i both.0 both.1) (cases_lt i (length old.image))

  pub before_next : (stamps bytes : List ℕ) (stretch : ℕ) (stamps' bytes' : List ℕ) (stretch' : ℕ) (now image image' stable stable' : List ℕ)
      → ((i : ℕ) → get_or now i 0 ≡ get_or image i 0)
      → ((i : ℕ) → at ≤ i → i < end → is_stamped stamps' stretch' i ≡ true)
      → ((i : ℕ) → old_byte stamps' stretch' bytes' now i ≡ old_byte stamps stretch bytes now i)
      → ((i : ℕ) → (i < off) ⊎ (min (off + n) limit ≤ i) → get_or image' i 0 ≡ get_or image i 0)
      → ((i : ℕ) → old_byte stamps stretch bytes image i ≡ get_or stable i 0)
      → stable' ≡ stable → (i : ℕ) → old_byte stamps' stretch' bytes' image' i ≡ get_or stable' i 0
  before_next stamps bytes stretch stamps' bytes' stretch' now image image' stable stable' value inside kept elsewhere before same i =
      let over : old_byte stamps' stretch' bytes' image' i ≡ old_byte stamps' stretch' bytes' image i =
      ⊎_elim (λ (lt : i < at). same_there stamps' stretch' bytes' image' image i (elsewhere i (beyond i (inl lt))))
      (λ (le : at ≤ i). ⊎_elim (λ (lt : i < end). kept_there stamps' stretch' bytes' image' image i (inside i le lt))
      (λ (past : end ≤ i). same_there stamps' stretch' bytes' image' image i (elsewhere i (beyond i (inr past)))) (cases_lt i end))
      (cases_lt i at) in
      over ∙ (sym (same_there stamps' stretch' bytes' now image i (value i))
      ∙ (kept i ∙ (same_there stamps stretch bytes now image i (value i) ∙ (before i ∙ ap (λ (l : List ℕ). get_or l i 0) (sym same)))))
