-- One more range that is not synced.
use Rattle.std.proofs.Common.{◌≡◌, ◌⊎◌, inl, inr, ⊎_elim, ℕ, ◌+◌, ◌≤◌, ◌<◌, max, List, [], ◌∷◌, ◌++◌, length, ◌∙◌, sym, subst, Result, Ok, Err, OnOk, OnErr, refl, arith}
use Rattle.std.proofs.lemmas.Bool.{cases_lt}
use Rattle.std.proofs.lemmas.List.{ext_get_or}
use Rattle.disk_model.specs.Disk.{Disk, IsOutside, greatest_end, IsTorn, MayLeave, synced}
use Rattle.disk_model.specs.Synced.{IsSynced}
use Rattle.disk_model.specs.Calls.{IsInside, Puts, Unsyncs}

pub outside_push : (ranges : List (ℕ × ℕ)) (off n i : ℕ) → IsOutside (ranges ++ (off, n) ∷ []) i → IsOutside ranges i × ((i < off) ⊎ (off + n ≤ i))
outside_push [] off n i out = (tt, out.0)
outside_push (range ∷ ranges) off n i out = let rest = outside_push ranges off n i out.1 in ((out.0, rest.0), rest.1)

pub inside_push : (ranges : List (ℕ × ℕ)) (off n i : ℕ) → IsInside (ranges ++ (off, n) ∷ []) i → IsInside ranges i ⊎ ((off ≤ i) × (i < off + n))
inside_push [] off n i (inl here) = inr here
inside_push [] off n i (inr none) = absurd none
inside_push (range ∷ ranges) off n i (inl here) = inl (inl here)
inside_push (range ∷ ranges) off n i (inr there) = ⊎_elim (λ had. inl (inr had)) (λ new. inr new) (inside_push ranges off n i there)

pub end_push : (ranges : List (ℕ × ℕ)) (off n : ℕ) → greatest_end (ranges ++ (off, n) ∷ []) ≡ max (greatest_end ranges) (off + n)
end_push [] off n = omega arith
end_push (range ∷ ranges) off n = omega (arith, end_push ranges off n)

-- what could be left before can still be left
pub torn_more : (stable : List ℕ) (ranges : List (ℕ × ℕ)) (off n : ℕ) (image : List ℕ) → IsTorn stable ranges image → IsTorn stable (ranges ++ (off, n) ∷ []) image
torn_more stable ranges off n image torn = record {
  no_shorter = torn.no_shorter;
  no_longer = omega (arith, torn.no_longer, end_push ranges off n);
  same = λ i lt out. torn.same i lt (outside_push ranges off n i out).0;
}

-- where nothing is unsynced, a stop leaves the stable image
pub torn_none : (stable image : List ℕ) → IsTorn stable [] image → image ≡ stable
torn_none stable image torn =
    let same : length image ≡ length stable = omega (arith, torn.no_shorter, torn.no_longer) in
    ext_get_or 0 image stable same (λ i lt. torn.same i (omega (arith, lt, same)) tt)

-- the new end lies between the old one and that of the range
pub puts_sizes : (off : ℕ) (bytes old new : List ℕ) → Puts off bytes old new → (length old ≤ length new) × (length new ≤ max (length old) (off + length bytes))
puts_sizes off bytes old new put =
    ⊎_elim (λ (lt : length bytes < 1). let same : length new ≡ length old = put.none (omega (arith, lt)) in (omega (arith, same), omega (arith, same)))
    (λ (le : 1 ≤ length bytes). let more : length new ≡ max (length old) (off + length bytes) = put.size le in (omega (arith, more), omega (arith, more)))
    (cases_lt (length bytes) 1)

-- a stop may leave what is put in a range
pub puts_torn : (stable : List ℕ) (ranges : List (ℕ × ℕ)) (off : ℕ) (bytes old new : List ℕ)
    → IsTorn stable ranges old → Puts off bytes old new → IsTorn stable (ranges ++ (off, length bytes) ∷ []) new
puts_torn stable ranges off bytes old new torn put = record {
  no_shorter = (let sizes = puts_sizes off bytes old new put in omega (arith, torn.no_shorter, sizes.0));
  no_longer = (let sizes = puts_sizes off bytes old new put in omega (arith, torn.no_longer, sizes.1, end_push ranges off (length bytes)));
  same = λ i lt out. put.others i (outside_push ranges off (length bytes) i out).1 ∙ torn.same i lt (outside_push ranges off (length bytes) i out).0;
}

-- after a sync that succeeded a stop leaves what a read gives
pub synced_only : (disk : Disk) (image : List ℕ) → IsSynced disk → MayLeave disk image → image ≡ disk.image
synced_only disk image is left =
    torn_none disk.stable image (subst (λ (ranges : List (ℕ × ℕ)). IsTorn disk.stable ranges image) is.ranges left) ∙ is.stable

-- a sync leaves no more than a stop might have left before it
pub after_sync : {T E : Type 0} (result : Result T E) (old new : Disk) → OnOk result (new ≡ synced old)
    → OnErr result (new ≡ old) → MayLeave old old.image → (image : List ℕ) → MayLeave new image → MayLeave old image
after_sync (Ok done) old new is same stays image left =
    let left_synced = subst (λ (disk : Disk). MayLeave disk image) is left in
    subst (λ (l : List ℕ). MayLeave old l) (sym (torn_none old.image image left_synced)) stays
after_sync (Err fault) old new is same stays image left = subst (λ (disk : Disk). MayLeave disk image) same left

-- a write leaves what was left before, torn in its range
pub after_write : (off n : ℕ) (old new : Disk) → Unsyncs off n old new → (image : List ℕ) → MayLeave new image → IsTorn old.stable (old.ranges ++ (off, n) ∷ []) image
after_write off n old new un image left =
    subst (λ (stable : List ℕ). IsTorn stable (old.ranges ++ (off, n) ∷ []) image) un.stable (subst (λ (ranges : List (ℕ × ℕ)). IsTorn new.stable ranges image) un.ranges left)

-- the same, as a history tells it
pub torn_written : (stable after_stable : List ℕ) (ranges after : List (ℕ × ℕ)) (off n : ℕ) (image : List ℕ) → after_stable ≡ stable
    → after ≡ ranges ++ (off, n) ∷ [] → IsTorn stable (ranges ++ (off, n) ∷ []) image → IsTorn after_stable after image
torn_written stable after_stable ranges after off n image same is torn =
    subst (λ (s : List ℕ). IsTorn s after image) (sym same) (subst (λ (rs : List (ℕ × ℕ)). IsTorn stable rs image) (sym is) torn)
