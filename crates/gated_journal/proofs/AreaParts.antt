-- The parts of an area, each behind those that were taken.
use Rattle.std.proofs.Common.{◌≡◌, inl, inr, ⊎_elim, ℕ, zero, suc, ◌+◌, ◌-◌, ◌^◌, ◌<◌, ◌≤◌, min, eqb, false, List, [], ◌∷◌, ◌++◌, length, take, drop, get_or, refl, sym, ◌∙◌, ap, subst, arith, append_assoc, length-append, length-take, take-append-drop}
use Rattle.std.proofs.lemmas.Bool.{cases_eq, cases_lt}
use Rattle.std.proofs.lemmas.List.{append-nil, take_at, take_all, get_or_append_left}
use Rattle.ring_records.specs.declared.input.Input.{Input}
use Rattle.ring_records.specs.declared.summary.Summary.{Summary}
use Rattle.ring_records.specs.Snapshot.{Spells}
use Rattle.ring_records.specs.SnapshotPart.{NoMore}
use Rattle.gated_journal.specs.Areas.{IsLayout, epoch_at}
use Rattle.gated_journal.specs.InUse.{IsHeadOf}
use Rattle.gated_journal.specs.Found.{IsHead, InSnapshot, InFrames, IsFound}
use Rattle.gated_journal.specs.Frames.{body, frames}
use Rattle.gated_journal.specs.Pieces.{IsNoArea, IsAreaDamaged}
use Rattle.gated_journal.specs.NextFrame.{TakesFrame}
use Rattle.gated_journal.specs.declared.area.Head as head_of
use Rattle.gated_journal.specs.declared.found.Stage.{Stage}
use Rattle.gated_journal.proofs.AreaHeads.{cases_layout, number_moved}
use Rattle.gated_journal.proofs.Behind.{frames-push, joined-push, sized-push}
use Rattle.gated_journal.proofs.Pieces.{take_through, unspelled}

take_front : (k : ℕ) (xs ys : List ℕ) → k ≤ length xs → take k (xs ++ ys) ≡ take k xs
take_front zero xs ys le = refl
take_front (suc k) [] ys le = absurd (omega (arith, le))
take_front (suc k) (x ∷ xs) ys le = ap (λ (l : List ℕ). x ∷ l) (take_front k xs ys (omega (arith, le)))

pub take_twice : (size there : ℕ) (l : List ℕ) → size ≤ there → take size (take there l) ≡ take size l
take_twice zero there l le = refl
take_twice (suc size) zero l le = absurd (omega (arith, le))
take_twice (suc size) (suc there) [] le = refl
take_twice (suc size) (suc there) (x ∷ l) le = ap (λ (r : List ℕ). x ∷ r) (take_twice size there l (omega (arith, le)))

take_none : (m : ℕ) → ◌≡◌ {A = List ℕ} (take m []) []
take_none zero = refl
take_none (suc m) = refl

pub take_plus : (k m j : ℕ) (l : List ℕ) → j ≡ k + m → take k l ++ take m (drop k l) ≡ take j l
take_plus zero m j l is = ap (λ (i : ℕ). take i l) (omega (arith, is))
take_plus (suc k) m zero l is = absurd (omega (arith, is))
take_plus (suc k) m (suc j) [] is = take_none m
take_plus (suc k) m (suc j) (x ∷ l) is = ap (λ (r : List ℕ). x ∷ r) (take_plus k m j l (omega (arith, is)))

pub nonempty : (l : List ℕ) → eqb (length l) 0 ≡ false → 0 < length l
nonempty [] e = absurd cc
nonempty (x ∷ l) e = omega arith

-- what is taken behind what was taken
pub taken_behind : (taken bytes : List ℕ) (k m : ℕ) → (taken ++ take k bytes) ++ take m (drop k bytes) ≡ taken ++ take (k + m) bytes
taken_behind taken bytes k m = append_assoc taken (take k bytes) (take m (drop k bytes)) ∙ ap (λ (l : List ℕ). taken ++ l) (take_plus k m (k + m) bytes refl)

-- a part of no bytes
pub unmoved : (layout n : ℕ) (stage : Stage) (snapshot : List ℕ) (inputs : List Input) (taken bytes : List ℕ) → IsFound layout n stage snapshot inputs taken bytes
    → IsFound layout n stage snapshot inputs (taken ++ take 0 bytes) (drop 0 bytes)
unmoved layout n stage snapshot inputs taken bytes f = subst (λ (l : List ℕ). IsFound layout n stage snapshot inputs l bytes) (sym (append-nil taken)) f

-- ---- the head

module _ (layout : ℕ) (bytes : List ℕ) (head : head_of.Head) (long : 14 ≤ length bytes) (found : IsHeadOf head 0 (take 14 bytes)) where
  first_long : length (take 14 bytes) ≡ 14
  first_long = omega (arith, length-take 14 bytes, long)

  pub good_head : (head.gate ≡ 1) × ((head.layout ≡ layout) × ((IsLayout layout) × (head.epoch < 2 ^ 40))) → InSnapshot layout [] (take 14 bytes) head.size
  good_head good = record {
    head = take 14 bytes;
    size = head.size;
    is_head = record {
      long = first_long;
      gate = sym found.gate ∙ good.0;
      layout_is = sym found.layout ∙ good.1.0;
      known = good.1.1.0;
      small = subst (λ (k : ℕ). k < 2 ^ 40) found.epoch good.1.1.1;
      size_is = sym found.size;
    };
    taken_is = sym (append-nil (take 14 bytes));
    left_is = omega arith;
  }

  module _ (n : ℕ) (more : List ℕ) where
    byte_at : (i : ℕ) → i < 14 → get_or (bytes ++ more) i 0 ≡ get_or (take 14 bytes) i 0
    byte_at i lt =
        get_or_append_left bytes more 0 i (omega (arith, lt, long)) ∙ (ap (λ (l : List ℕ). get_or l i 0) (sym (take-append-drop 14 bytes))
        ∙ get_or_append_left (take 14 bytes) (drop 14 bytes) 0 i (omega (arith, lt, first_long)))

    epoch_is : epoch_at 0 (bytes ++ more) ≡ head.epoch
    epoch_is = number_moved 8 2 2 (bytes ++ more) (take 14 bytes) (λ i lt. byte_at (2 + i) (omega (arith, lt))) ∙ sym found.epoch

    pub bad_head : ((head.gate ≡ 1) × ((head.layout ≡ layout) × ((IsLayout layout) × (head.epoch < 2 ^ 40))) → ⊥) → IsAreaDamaged layout n (bytes ++ more) 0
    bad_head bad = record { cause = inl (refl, which) }
      where
        which : IsNoArea layout n (bytes ++ more)
        which =
            ⊎_elim
            (λ (gate : head.gate ≡ 1). ⊎_elim
            (λ (same : head.layout ≡ layout). ⊎_elim
            (λ (known : IsLayout layout). inr (inr (inr (inr (inl (⊎_elim (λ (small : head.epoch < 2 ^ 40). absurd (bad (gate, (same, (known, small))))) (λ (great : 2 ^ 40 ≤ head.epoch). omega (arith, great, epoch_is))
            (cases_lt head.epoch (2 ^ 40))))))))
            (λ unknown. inr (inr (inl unknown))) (cases_layout layout))
            (λ other. inr (inl (λ e. other (found.layout ∙ (sym (byte_at 1 (omega arith)) ∙ e))))) (cases_eq head.layout layout))
            (λ shut. inl (λ e. shut (found.gate ∙ (sym (byte_at 0 (omega arith)) ∙ e)))) (cases_eq head.gate 1)

-- ---- the snapshot

-- a part more of it
pub snapshot_more : (layout : ℕ) (old new taken bytes : List ℕ) (left size : ℕ) → InSnapshot layout old taken left → new ≡ old ++ take size bytes → size ≤ left
    → size ≤ length bytes
    → InSnapshot layout new (taken ++ take size bytes) (left - size)
snapshot_more layout old new taken bytes left size s is fits there = record {
  head = s.head;
  size = s.size;
  is_head = s.is_head;
  taken_is = ap (λ (l : List ℕ). l ++ take size bytes) s.taken_is ∙ (append_assoc s.head old (take size bytes) ∙ ap (λ (l : List ℕ). s.head ++ l) (sym is));
  left_is = omega (arith, s.left_is, ap length is, length-append old (take size bytes), length-take size bytes, fits, there);
}

-- nothing of it is to come, and it is that of a summary
pub snapshot_read : (layout n : ℕ) (snapshot taken : List ℕ) (base : Summary) → InSnapshot layout snapshot taken 0 → Spells layout n snapshot base → InFrames layout n snapshot taken []
snapshot_read layout n snapshot taken base s spells = record {
  head = s.head;
  base = base;
  batches = [];
  is_head = subst (λ (k : ℕ). IsHead layout k s.head) (omega (arith, s.left_is)) s.is_head;
  spells = spells;
  taken_is = s.taken_is ∙ ap (λ (l : List ℕ). s.head ++ l) (sym (append-nil snapshot));
  sized = tt;
  same = refl;
}

-- or of none
pub snapshot_unread : (layout n : ℕ) (snapshot taken behind : List ℕ) → InSnapshot layout snapshot taken 0 → ((base : Summary) → Spells layout n snapshot base → ⊥) → (more : List ℕ)
    → IsAreaDamaged layout n ((taken ++ behind) ++ more) 0
snapshot_unread layout n snapshot taken behind s none more =
    subst (λ (l : List ℕ). IsAreaDamaged layout n l 0) (sym (append_assoc taken behind more))
    (unspelled layout n snapshot taken (behind ++ more) 0 s (λ base spells. none base (subst (λ (l : List ℕ). Spells layout n l base) (append-nil snapshot) spells)))

-- no part of it stands at the front of the bytes
pub snapshot_broken : (layout n : ℕ) (snapshot taken bytes : List ℕ) (left there : ℕ) → InSnapshot layout snapshot taken left → 0 < left → there ≡ min (length bytes) left
    → (there < left → 38 ≤ there)
    → NoMore layout n snapshot (take there bytes) → (more : List ℕ) → IsAreaDamaged layout n ((taken ++ bytes) ++ more) 0
snapshot_broken layout n snapshot taken bytes left there s some is enough none more =
    subst (λ (l : List ℕ). IsAreaDamaged layout n l 0) (sym (append_assoc taken bytes more)) (unspelled layout n snapshot taken (bytes ++ more) left s (⊎_elim short long (cases_lt (length bytes) left)))
  where
    short : length bytes < left → (base : Summary) → Spells layout n (snapshot ++ take left (bytes ++ more)) base → ⊥
    short less base spells =
        let k = left - length bytes in
        let all : take there bytes ≡ bytes = take_all there bytes (omega (arith, is, less)) in
        let split : take left (bytes ++ more) ≡ take there bytes ++ take k more =
        take_through bytes more k left (omega (arith, less)) ∙ ap (λ (l : List ℕ). l ++ take k more) (sym all) in
        none (take k more) base (inl (omega (arith, ap length all, is, less, enough (omega (arith, is, less))))) (omega (arith, ap length all, is, less, enough (omega (arith, is, less)))) (subst (λ (l : List ℕ). Spells layout n (snapshot ++ l) base) split spells)

    long : left ≤ length bytes → (base : Summary) → Spells layout n (snapshot ++ take left (bytes ++ more)) base → ⊥
    long all base spells =
        let same : there ≡ left = omega (arith, is, all) in
        let split : take left (bytes ++ more) ≡ take there bytes ++ [] =
        take_front left bytes more all ∙ (ap (λ (m : ℕ). take m bytes) (sym same) ∙ sym (append-nil (take there bytes))) in
        none [] base (inr refl) (omega (arith, length-take there bytes, same, all, some)) (subst (λ (l : List ℕ). Spells layout n (snapshot ++ l) base) split spells)

-- ---- the frames

-- one frame more
pub frames_more : (layout n : ℕ) (snapshot taken bytes : List ℕ) (old new : List Input) (size : ℕ) (tail : List ℕ) → InFrames layout n snapshot taken old → bytes ≡ 1 ∷ tail
    → TakesFrame layout old new tail size
    → InFrames layout n snapshot (taken ++ take (1 + size) bytes) new
frames_more layout n snapshot taken bytes old new size tail f is t =
    let batch = t.batch in
    let text : List ℕ = 1 ∷ body batch in
    let part : take (1 + size) bytes ≡ text = ap (λ (l : List ℕ). take (1 + size) l) (is ∙ ap (λ (l : List ℕ). 1 ∷ l) t.framed) ∙ take_at text t.rest (1 + size) (omega (arith, t.size_is)) in
    let all : frames f.batches ++ text ≡ frames (f.batches ++ batch ∷ []) =
    ap (λ (l : List ℕ). frames f.batches ++ (1 ∷ l)) (sym (append-nil (body batch))) ∙ (sym (frames-push f.batches batch []) ∙ append-nil (frames (f.batches ++ batch ∷ []))) in
    record {
      head = f.head;
      base = f.base;
      batches = f.batches ++ batch ∷ [];
      is_head = f.is_head;
      spells = f.spells;
      taken_is = (λ i. f.taken_is i ++ part i) ∙ (append_assoc f.head (snapshot ++ frames f.batches) text
          ∙ (ap (λ (l : List ℕ). f.head ++ l) (append_assoc snapshot (frames f.batches) text ∙ ap (λ (l : List ℕ). snapshot ++ l) all)));
      sized = sized-push f.batches batch f.sized t.is_batch;
      same = t.added ∙ (ap (λ (l : List Input). l ++ batch) f.same ∙ sym (joined-push f.batches batch));
    }
