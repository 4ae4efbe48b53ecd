-- How time goes on over a call of a device that keeps its stretches, and over a run of calls.
use Rattle.std.proofs.Common.{◌≡◌, ◌⊎◌, inl, inr, ⊎_elim, ℕ, zero, suc, ◌≤◌, List, [], ◌∷◌, ◌++◌, length, drop, refl, sym, subst, arith, length-append}
use Rattle.disk_model.specs.Disk.{Disk, MayLeave, IsTorn, LeavesOnly}
use Rattle.disk_model.specs.Calls.{Unsyncs, Elapses}
use Rattle.disk_model.specs.Stretches.{Past, LeftIn, LeftSince}
use Rattle.disk_model.proofs.Ranges.{torn_more, after_write}

-- ---- one call

-- a write: what might be left before can still be left
pub elapses_write : (past later : Past) (old new : Disk) (off n : ℕ) → later ≡ past → new.stable ≡ old.stable → new.ranges ≡ old.ranges ++ (off, n) ∷ []
    → Elapses (length past) (length later) (LeftSince past old) (LeftSince later new) new
elapses_write past later old new off n same stable is =
    let more : (image : List ℕ) → MayLeave old image → MayLeave new image =
    λ image was. subst (λ (s : List ℕ). IsTorn s new.ranges image) (sym stable)
    (subst (λ (rs : List (ℕ × ℕ)). IsTorn old.stable rs image) (sym is) (torn_more old.stable old.ranges off n image was)) in
    subst (λ (l : Past). Elapses (length past) (length l) (LeftSince past old) (LeftSince l new) new) (sym same) (record {
      later = omega arith;
      nothing_else = λ t image le since. ⊎_elim (λ now. inr now) (λ left. inl (inr left)) since;
      keeps = λ t image le since. ⊎_elim (λ was. inl (more image was)) (λ left. inr left) since;
    })

keeps : (past : Past) (stretch : List ℕ × List (ℕ × ℕ)) (image : List ℕ) → LeftIn past image → LeftIn (past ++ stretch ∷ []) image
keeps [] stretch image left = absurd left
keeps (p ∷ past) stretch image (inl here) = inl here
keeps (p ∷ past) stretch image (inr there) = inr (keeps past stretch image there)

adds : (past : Past) (stretch : List ℕ × List (ℕ × ℕ)) (image : List ℕ) → LeftIn (past ++ stretch ∷ []) image → LeftIn past image ⊎ IsTorn stretch.0 stretch.1 image
adds [] stretch image (inl here) = inr here
adds [] stretch image (inr none) = absurd none
adds (p ∷ past) stretch image (inl here) = inl (inl here)
adds (p ∷ past) stretch image (inr there) = ⊎_elim (λ left. inl (inr left)) (λ new. inr new) (adds past stretch image there)

newest : (past : Past) (stretch : List ℕ × List (ℕ × ℕ)) (image : List ℕ) → IsTorn stretch.0 stretch.1 image → LeftIn (past ++ stretch ∷ []) image
newest [] stretch image is = inl is
newest (p ∷ past) stretch image is = inr (newest past stretch image is)

drop_push : (t : ℕ) (past : Past) (stretch : List ℕ × List (ℕ × ℕ)) → t ≤ length past → drop t (past ++ stretch ∷ []) ≡ drop t past ++ stretch ∷ []
drop_push zero past stretch le = refl
drop_push (suc t) [] stretch le = absurd (omega arith)
drop_push (suc t) (p ∷ past) stretch le = drop_push t past stretch (omega arith)

-- a sync: the stretch before it has ended
pub elapses_sync : (past later : Past) (old new : Disk) → later ≡ past ++ (old.stable, old.ranges) ∷ []
    → Elapses (length past) (length later) (LeftSince past old) (LeftSince later new) new
elapses_sync past later old new is =
    let stretch : List ℕ × List (ℕ × ℕ) = (old.stable, old.ranges) in
    subst (λ (l : Past). Elapses (length past) (length l) (LeftSince past old) (LeftSince l new) new) (sym is) (record {
      later = omega (arith, length-append past (stretch ∷ []));
      nothing_else = λ t image le since. ⊎_elim (λ now. inr now)
          (λ left. inl (⊎_elim (λ had. inr had) (λ was. inl was) (adds (drop t past) stretch image (subst (λ (l : Past). LeftIn l image) (drop_push t past stretch le) left)))) since;
      keeps = λ t image le since. inr (subst (λ (l : Past). LeftIn l image) (sym (drop_push t past stretch le))
          (⊎_elim (λ was. newest (drop t past) stretch image was) (λ had. keeps (drop t past) stretch image had) since));
    })

-- ---- a run of calls

module _ {D : Type 0} (clock : D → ℕ) (left_since : D → ℕ → List ℕ → Type 0) where
  -- before the first call
  pub started : (old : D) (P : List ℕ → Type 0) → ((image : List ℕ) → left_since old (clock old) image → P image) → LeavesOnly clock left_since old old P
  started old P here = record { later = omega arith; each = here; before = λ t image le left. inl left; keeps = λ t image le left. left }

  -- one call more, after which a stop leaves what has P
  pub goes_on : (old mid new : D) (P : List ℕ → Type 0) (disk : Disk) → LeavesOnly clock left_since old mid P → Elapses (clock mid) (clock new) (left_since mid) (left_since new) disk
      → ((image : List ℕ) → MayLeave disk image → P image) → LeavesOnly clock left_since old new P
  goes_on old mid new P disk so_far time here = record {
    later = omega (arith, so_far.later, time.later);
    each = λ image left. ⊎_elim (so_far.each image) (here image) (time.nothing_else (clock old) image so_far.later left);
    before = λ t image le left. ⊎_elim (so_far.before t image le) (λ now. inr (here image now)) (time.nothing_else t image (omega (arith, le, so_far.later)) left);
    keeps = λ t image le left. time.keeps t image (omega (arith, le, so_far.later)) (so_far.keeps t image le left);
  }

  pub weaken : (old new : D) (P Q : List ℕ → Type 0) → ((image : List ℕ) → P image → Q image) → LeavesOnly clock left_since old new P → LeavesOnly clock left_since old new Q
  weaken old new P Q to so = record {
    later = so.later;
    each = λ image left. to image (so.each image left);
    before = λ t image le left. ⊎_elim (λ was. inl was) (λ here. inr (to image here)) (so.before t image le left);
    keeps = so.keeps;
  }

  -- one run after another
  pub joins : (old mid new : D) (P : List ℕ → Type 0) → LeavesOnly clock left_since old mid P → LeavesOnly clock left_since mid new P → LeavesOnly clock left_since old new P
  joins old mid new P first second = record {
    later = omega (arith, first.later, second.later);
    each = λ image left. ⊎_elim (λ was. first.each image was) (λ here. here) (second.before (clock old) image first.later left);
    before = λ t image le left. ⊎_elim (λ was. first.before t image le was) (λ here. inr here) (second.before t image (omega (arith, le, first.later)) left);
    keeps = λ t image le left. second.keeps t image (omega (arith, le, first.later)) (first.keeps t image le left);
  }

  -- a write
  pub writes : (old mid : D) (was is : Disk) (off n : ℕ) → ((image : List ℕ) → left_since old (clock old) image → MayLeave was image)
      → Unsyncs off n was is → Elapses (clock old) (clock mid) (left_since old) (left_since mid) is
      → LeavesOnly clock left_since old mid (IsTorn was.stable (was.ranges ++ (off, n) ∷ []))
  writes old mid was is off n only un time =
      goes_on old old mid (IsTorn was.stable (was.ranges ++ (off, n) ∷ [])) is
      (started old (IsTorn was.stable (was.ranges ++ (off, n) ∷ [])) (λ image left. torn_more was.stable was.ranges off n image (only image left))) time (after_write off n was is un)

  -- both facts hold at each moment
  pub both : (old new : D) (P Q : List ℕ → Type 0) → LeavesOnly clock left_since old new P → LeavesOnly clock left_since old new Q → LeavesOnly clock left_since old new (λ image. P image × Q image)
  both old new P Q p q = record {
    later = p.later;
    each = λ image left. (p.each image left, q.each image left);
    before = λ t image le left. ⊎_elim (λ was. inl was) (λ here. ⊎_elim (λ was. inl was) (λ also. inr (here, also)) (q.before t image le left)) (p.before t image le left);
    keeps = p.keeps;
  }

  -- and now
  pub now : (old new : D) (disk : Disk) (P : List ℕ → Type 0) → LeavesOnly clock left_since old new P
      → ((t : ℕ) (image : List ℕ) → t ≤ clock new → MayLeave disk image → left_since new t image) → (image : List ℕ) → MayLeave disk image → P image
  now old new disk P so counts image left = so.each image (counts (clock old) image so.later left)
