-- Areas in pieces: what is read or damaged of the bytes so far, and with all that may follow.
use Rattle.std.proofs.Common.{◌≡◌, ◌⊎◌, inl, inr, ⊎_elim, ℕ, zero, suc, ◌+◌, ◌^◌, ◌<◌, ◌≤◌, List, [], ◌∷◌, ◌++◌, length, take, drop, get_or, refl, sym, ◌∙◌, ap, subst, arith, append_assoc, length-append}
use Rattle.std.proofs.lemmas.List.{drop_at, take_at, drop-drop, get_or_append_left}
use Rattle.ring_records.specs.declared.input.Input.{Input}
use Rattle.ring_records.specs.declared.summary.Summary.{Summary}
use Rattle.ring_records.specs.Snapshot.{Spells}
use Rattle.gated_journal.specs.Areas.{layout_at, epoch_at, size_at, frames_of, snapshot_at, HasBase}
use Rattle.gated_journal.specs.Damage.{NoFrame, ReadsUpTo}
use Rattle.gated_journal.specs.Found.{IsHead, InSnapshot, InFrames, IsClosed}
use Rattle.gated_journal.specs.Frames.{body, frames}
use Rattle.gated_journal.specs.Pieces.{reading_with, IsAreaRead, IsNoArea, IsAreaDamaged, IsNextFront, IsSnapshotFront, AreFramesFront, IsEnough}
use Rattle.gated_journal.proofs.AreaHeads.{number_moved}
use Rattle.gated_journal.proofs.Unique as unique

-- ---- the head

module _ (layout size : ℕ) (head rest : List ℕ) (is : IsHead layout size head) where
  byte_there : (i : ℕ) → i < 14 → get_or (head ++ rest) i 0 ≡ get_or head i 0
  byte_there i lt = get_or_append_left head rest 0 i (omega (arith, lt, is.long))

  gate_there : get_or (head ++ rest) 0 0 ≡ 1
  gate_there = byte_there 0 (omega arith) ∙ is.gate

  layout_there : layout_at 0 (head ++ rest) ≡ layout
  layout_there = byte_there 1 (omega arith) ∙ is.layout_is

  epoch_there : epoch_at 0 (head ++ rest) ≡ epoch_at 0 head
  epoch_there = number_moved 8 2 2 (head ++ rest) head (λ i lt. byte_there (2 + i) (omega (arith, lt)))

  size_there : size_at 0 (head ++ rest) ≡ size
  size_there = number_moved 4 10 10 (head ++ rest) head (λ i lt. byte_there (10 + i) (omega (arith, lt))) ∙ is.size_is

pub take_through : (xs ys : List ℕ) (k m : ℕ) → m ≡ length xs + k → take m (xs ++ ys) ≡ xs ++ take k ys
take_through [] ys k m is = ap (λ (j : ℕ). take j ys) (omega (arith, is))
take_through (x ∷ xs) ys k zero is = absurd (omega (arith, is))
take_through (x ∷ xs) ys k (suc m) is = ap (λ (l : List ℕ). x ∷ l) (take_through xs ys k m (omega (arith, is)))

prefix : (a b c d : List ℕ) → length c ≤ length a → a ++ b ≡ c ++ d → (rest : List ℕ) × (a ≡ c ++ rest)
prefix a b [] d le e = (a, refl)
prefix [] b (y ∷ c) d le e = absurd (omega (arith, le))
prefix (x ∷ a) b (y ∷ c) d le e =
    let tails : a ++ b ≡ c ++ d = cc in
    let heads : x ≡ y = cc in
    let behind = prefix a b c d (omega (arith, le)) tails in
    (behind.0, λ i. heads i ∷ behind.1 i)

-- the bytes end before the head does
pub head_missing : (layout n : ℕ) (bytes : List ℕ) → length bytes < 14 → IsAreaDamaged layout n bytes 0
head_missing layout n bytes short = record { cause = inl (refl, inr (inr (inr (inl (omega (arith, short)))))) }

-- ---- a snapshot that is not whole

module _ (layout n : ℕ) (snapshot taken behind : List ℕ) (left : ℕ) (s : InSnapshot layout snapshot taken left) where
  whole_snapshot : taken ++ behind ≡ s.head ++ (snapshot ++ behind)
  whole_snapshot = ap (λ (l : List ℕ). l ++ behind) s.taken_is ∙ append_assoc s.head snapshot behind

  size_of : size_at 0 (taken ++ behind) ≡ length snapshot + left
  size_of = ap (size_at 0) whole_snapshot ∙ (size_there layout s.size s.head (snapshot ++ behind) s.is_head ∙ sym s.left_is)

  layout_of : layout_at 0 (taken ++ behind) ≡ layout
  layout_of = ap (layout_at 0) whole_snapshot ∙ layout_there layout s.size s.head (snapshot ++ behind) s.is_head

  snapshot_is : snapshot_at 0 (taken ++ behind) ≡ snapshot ++ take left behind
  snapshot_is =
      let tail : drop 14 (taken ++ behind) ≡ snapshot ++ behind = ap (drop 14) whole_snapshot ∙ drop_at s.head (snapshot ++ behind) 14 s.is_head.long in
      (λ i. take (size_of i) (tail i)) ∙ take_through snapshot behind left (length snapshot + left) refl

  -- it ends too early
  pub too_short : length behind < left → IsAreaDamaged layout n (taken ++ behind) 0
  too_short short = record {
    cause = inl (refl, inr (inr (inr (inl (omega (arith, size_of, short, ap length whole_snapshot, length-append s.head (snapshot ++ behind), length-append snapshot behind, s.is_head.long))))));
  }

  -- it goes on
  pub snapshot_front : length behind < left → length behind < 38 → IsSnapshotFront layout (taken ++ behind) (length behind)
  snapshot_front short few =
      let rest : List ℕ = snapshot ++ behind in
      record {
        gate = ap (λ (l : List ℕ). get_or l 0 0) whole_snapshot ∙ gate_there layout s.size s.head rest s.is_head;
        layout_is = ap (layout_at 0) whole_snapshot ∙ layout_there layout s.size s.head rest s.is_head;
        known = s.is_head.known;
        small = subst (λ (k : ℕ). k < 2 ^ 40) (sym (ap (epoch_at 0) whole_snapshot ∙ epoch_there layout s.size s.head rest s.is_head)) s.is_head.small;
        ends = omega (arith, size_of, short, ap length whole_snapshot, length-append s.head rest, length-append snapshot behind, s.is_head.long);
        there = omega (arith, ap length whole_snapshot, length-append s.head rest, length-append snapshot behind, s.is_head.long);
        few = omega (arith, few);
      }

  -- it is that of none
  pub unspelled : ((base : Summary) → Spells layout n (snapshot ++ take left behind) base → ⊥) → IsAreaDamaged layout n (taken ++ behind) 0
  unspelled none = record { cause = inl (refl, inr (inr (inr (inr (inr (λ base spells. none base (subst (λ (k : ℕ). Spells k n (snapshot ++ take left behind) base) layout_of (subst (λ (l : List ℕ). Spells (layout_at 0 (taken ++ behind)) n l base) snapshot_is spells)))))))) }

-- ---- frames

-- the bytes end, or a gate is open and no frame is behind it
abbrev pub NoFramed : ℕ → List ℕ → Type 0
NoFramed layout behind = (behind ≡ []) ⊎ ((tail : List ℕ) × ((behind ≡ 1 ∷ tail) × NoFrame layout tail))

module _ (layout n : ℕ) (snapshot taken behind : List ℕ) (inputs : List Input) (f : InFrames layout n snapshot taken inputs) where
  whole_frames : taken ++ behind ≡ f.head ++ (snapshot ++ (frames f.batches ++ behind))
  whole_frames =
      ap (λ (l : List ℕ). l ++ behind) f.taken_is ∙ (append_assoc f.head (snapshot ++ frames f.batches) behind
      ∙ ap (λ (l : List ℕ). f.head ++ l) (append_assoc snapshot (frames f.batches) behind))

  size_is : size_at 0 (taken ++ behind) ≡ length snapshot
  size_is = ap (size_at 0) whole_frames ∙ size_there layout (length snapshot) f.head (snapshot ++ (frames f.batches ++ behind)) f.is_head

  gate_is : get_or (taken ++ behind) 0 0 ≡ 1
  gate_is = ap (λ (l : List ℕ). get_or l 0 0) whole_frames ∙ gate_there layout (length snapshot) f.head (snapshot ++ (frames f.batches ++ behind)) f.is_head

  tail_is : drop 14 (taken ++ behind) ≡ snapshot ++ (frames f.batches ++ behind)
  tail_is = ap (drop 14) whole_frames ∙ drop_at f.head (snapshot ++ (frames f.batches ++ behind)) 14 f.is_head.long

  spelled : snapshot_at 0 (taken ++ behind) ≡ snapshot
  spelled = (λ i. take (size_is i) (tail_is i)) ∙ take_at snapshot (frames f.batches ++ behind) (length snapshot) refl

  base_there : (more : List Input) → HasBase n 0 (taken ++ behind) (reading_with layout (taken ++ behind) f.base more) (frames_of 0 (taken ++ behind))
  base_there more =
      let rest : List ℕ = snapshot ++ (frames f.batches ++ behind) in
      record {
        layout = sym (ap (layout_at 0) whole_frames ∙ layout_there layout (length snapshot) f.head rest f.is_head);
        known = f.is_head.known;
        epoch = refl;
        small = subst (λ (k : ℕ). k < 2 ^ 40) (sym (ap (epoch_at 0) whole_frames ∙ epoch_there layout (length snapshot) f.head rest f.is_head)) f.is_head.small;
        offset_is = refl;
        there = omega (arith, size_is, ap length whole_frames, length-append f.head rest, length-append snapshot (frames f.batches ++ behind), f.is_head.long);
        snapshot = subst (λ (l : List ℕ). Spells layout n l f.base) (sym spelled) f.spells;
      }

  frames_there : drop (frames_of 0 (taken ++ behind)) (taken ++ behind) ≡ frames f.batches ++ behind
  frames_there =
      ap (λ (k : ℕ). drop (14 + k) (taken ++ behind)) size_is ∙ (sym (drop-drop (length snapshot) 14 (taken ++ behind)) ∙ (ap (λ (l : List ℕ). drop (length snapshot) l) tail_is
      ∙ drop_at snapshot (frames f.batches ++ behind) (length snapshot) refl))

  ends_at : length taken ≡ frames_of 0 (taken ++ behind) + length (frames f.batches)
  ends_at = omega (arith, size_is, ap length f.taken_is, length-append f.head (snapshot ++ frames f.batches), length-append snapshot (frames f.batches), f.is_head.long)

  up_to : ReadsUpTo layout (frames_of 0 (taken ++ behind)) (taken ++ behind) inputs (length taken)
  up_to = record {
    batches = f.batches;
    whole = frames_there ∙ ap (λ (l : List ℕ). frames f.batches ++ l) (sym (drop_at taken behind (length taken) refl));
    sized = f.sized;
    same = f.same;
    ends = ends_at;
  }

  -- the closed gate is there
  pub read_whole : IsClosed behind → IsAreaRead layout n (taken ++ behind) f.base inputs (length taken)
  read_whole closed = record {
    gate = gate_is;
    base = base_there inputs;
    frames = record {
      batches = f.batches;
      gate = closed.0;
      after = closed.1.0;
      whole = frames_there ∙ ap (λ (l : List ℕ). frames f.batches ++ l) closed.1.1.0;
      sized = f.sized;
      closed = closed.1.1.1;
      same = f.same;
      ends = ends_at;
    };
  }

  -- there is neither a closed gate nor a frame
  pub not_framed : NoFramed layout behind → IsAreaDamaged layout n (taken ++ behind) (length taken)
  not_framed none =
      let same : drop (length taken) (taken ++ behind) ≡ behind = drop_at taken behind (length taken) refl in
      record {
        cause = inr (record {
          base_of = f.base;
          gate = gate_is;
          base = base_there [];
          damaged = record {
            inputs = inputs;
            up_to = up_to;
            broken = ⊎_elim (λ (e : behind ≡ []). inl (same ∙ e)) (λ (p : (tail : List ℕ) × ((behind ≡ 1 ∷ tail) × NoFrame layout tail)). inr (p.0, (same ∙ p.1.0, p.1.1))) none;
          };
        });
      }

  -- there is neither yet
  pub frames_front : IsNextFront behind → AreFramesFront layout n (taken ++ behind) (length behind)
  frames_front front = record {
    base_of = f.base;
    inputs = inputs;
    gate_at = length taken;
    gate = gate_is;
    base = base_there inputs;
    frames = up_to;
    front = subst IsNextFront (sym (drop_at taken behind (length taken) refl)) front;
    kept_is = sym (length-append taken behind);
  }

-- ---- whatever follows

pub more_frames : (layout n : ℕ) (snapshot taken behind : List ℕ) (inputs : List Input) (f : InFrames layout n snapshot taken inputs) → IsClosed behind → (more : List ℕ)
    → IsAreaRead layout n ((taken ++ behind) ++ more) f.base inputs (length taken)
more_frames layout n snapshot taken behind inputs f closed more =
    let still : IsClosed (behind ++ more) = (closed.0, (closed.1.0 ++ more, (ap (λ (l : List ℕ). l ++ more) closed.1.1.0, closed.1.1.1))) in
    subst (λ (l : List ℕ). IsAreaRead layout n l f.base inputs (length taken)) (sym (append_assoc taken behind more)) (read_whole layout n snapshot taken (behind ++ more) inputs f still)

-- no frame stands at the head of enough bytes, and so none does at the head of more
pub none_behind : {layout : ℕ} (tail more : List ℕ) → IsEnough tail → NoFrame layout tail → NoFrame layout (tail ++ more)
none_behind {layout = layout} tail more enough none batch rest is e =
    let front = prefix tail more (body batch) rest (enough layout batch more rest is e) e in
    none batch front.0 is front.1

pub damaged_frame : (layout n : ℕ) (snapshot taken tail : List ℕ) (inputs : List Input) → InFrames layout n snapshot taken inputs → IsEnough tail → NoFrame layout tail
    → (behind more : List ℕ) → behind ≡ 1 ∷ tail
    → IsAreaDamaged layout n ((taken ++ behind) ++ more) (length taken)
damaged_frame layout n snapshot taken tail inputs f enough none behind more is =
    subst (λ (l : List ℕ). IsAreaDamaged layout n l (length taken)) (sym (append_assoc taken behind more))
    (not_framed layout n snapshot taken (behind ++ more) inputs f (inr (tail ++ more, (ap (λ (l : List ℕ). l ++ more) is, none_behind tail more enough none))))

-- ---- no bytes are both

pub not_both : (layout n : ℕ) (bytes : List ℕ) (s : Summary) (inputs : List Input) (gate_at at : ℕ) → IsAreaRead layout n bytes s inputs gate_at → IsAreaDamaged layout n bytes at → ⊥
not_both layout n bytes s inputs gate_at at read damaged = ⊎_elim (λ none. no_area none.1) (λ d. unique.not_both (frames_of 0 bytes) bytes inputs gate_at at read.frames d.damaged) damaged.cause
  where
    no_area : IsNoArea layout n bytes → ⊥
    no_area (inl gate) = gate read.gate
    no_area (inr (inl layout_is)) = layout_is (sym read.base.layout)
    no_area (inr (inr (inl known))) = known read.base.known
    no_area (inr (inr (inr (inl short)))) = omega (arith, short, read.base.there)
    no_area (inr (inr (inr (inr (inl great))))) = omega (arith, great, read.base.epoch, read.base.small)
    no_area (inr (inr (inr (inr (inr none))))) = none s (subst (λ (k : ℕ). Spells k n (snapshot_at 0 bytes) s) read.base.layout read.base.snapshot)
