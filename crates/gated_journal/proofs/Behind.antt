-- Frames behind an offset: what the two steps of a commit leave of them at each moment.
use Rattle.std.proofs.Common.{◌≡◌, ◌≢◌, inl, inr, ⊎_elim, ℕ, ◌+◌, ◌-◌, ◌<◌, ◌≤◌, List, [], ◌∷◌, ◌++◌, length, take, drop, get_or, sym, ◌∙◌, ap, subst, arith, append_assoc, length-append, length-drop, take-append-drop}
use Rattle.std.proofs.lemmas.List.{take_at, drop-drop, drop_more, append-nil, get_or-drop, get_or-append_right}
use Rattle.std.proofs.lemmas.Bool.{cases_eq}
use Rattle.disk_model.specs.Calls.{Changes, Puts}
use Rattle.disk_model.proofs.Changed.{byte_above, puts_changes, widen, changes_trans}
use Rattle.ring_records.specs.declared.input.Input.{Input}
use Rattle.gated_journal.specs.Frames.{body, frames, joined, IsBatch, AreBatches, ReadsTo}
use Rattle.gated_journal.specs.AreaWritten.{IsFrame, Appends}
use Rattle.gated_journal.proofs.Kept.{SameBytes, kept, part_same, drop_same, put_behind}

-- ---- one batch more

pub frames-push : (batches : List (List Input)) (batch : List Input) (rest : List ℕ) → frames (batches ++ batch ∷ []) ++ rest ≡ frames batches ++ (1 ∷ (body batch ++ rest))
frames-push [] batch rest = ap (λ (l : List ℕ). 1 ∷ l) (append_assoc (body batch) [] rest)
frames-push (b ∷ batches) batch rest =
    ap (λ (l : List ℕ). 1 ∷ l) (append_assoc (body b) (frames (batches ++ batch ∷ [])) rest ∙ ap (λ (l : List ℕ). body b ++ l) (frames-push batches batch rest) ∙ sym (append_assoc (body b) (frames batches) (1 ∷ (body batch ++ rest))))

pub length-frames-push : (batches : List (List Input)) (batch : List Input) → length (frames (batches ++ batch ∷ [])) ≡ length (frames batches) + 1 + length (body batch)
length-frames-push batches batch =
    let e : length (frames (batches ++ batch ∷ []) ++ []) ≡ length (frames batches ++ (1 ∷ (body batch ++ []))) = ap length (frames-push batches batch []) in
    omega (arith, e, length-append (frames (batches ++ batch ∷ [])) [], length-append (frames batches) (1 ∷ (body batch ++ [])), length-append (body batch) [])

pub joined-push : (batches : List (List Input)) (batch : List Input) → joined (batches ++ batch ∷ []) ≡ joined batches ++ batch
joined-push [] batch = append-nil batch
joined-push (b ∷ batches) batch = ap (λ (l : List Input). b ++ l) (joined-push batches batch) ∙ sym (append_assoc b (joined batches) batch)

pub sized-push : {layout : ℕ} (batches : List (List Input)) (batch : List Input) → AreBatches layout batches → IsBatch layout batch → AreBatches layout (batches ++ batch ∷ [])
sized-push [] batch sized is = (is, tt)
sized-push (b ∷ batches) batch sized is = (sized.0, sized-push batches batch sized.1 is)

-- ---- frames in two images

pub inside : {layout : ℕ} (offset : ℕ) (image : List ℕ) (inputs : List Input) (gate_at : ℕ) → ReadsTo layout offset image inputs gate_at → gate_at < length image
inside offset image inputs gate_at r = omega (arith, ap length r.whole, length-drop offset image, length-append (frames r.batches) (r.gate ∷ r.after), r.ends)

-- the frames are there again, and at their end some byte
pub before_gate : {layout : ℕ} (offset : ℕ) (image other : List ℕ) (inputs : List Input) (gate_at : ℕ) (r : ReadsTo layout offset image inputs gate_at)
    → SameBytes offset (gate_at - offset) image other → gate_at < length other
    → drop offset other ≡ frames r.batches ++ drop gate_at other
before_gate offset image other inputs gate_at r same in_other =
    let n = gate_at - offset in
    let in_image = inside offset image inputs gate_at r in
    let at : offset + n ≡ gate_at = omega (arith, r.ends) in
    let has : take n (drop offset other) ≡ frames r.batches =
    part_same offset n image other (omega (arith, in_image, r.ends)) (omega (arith, in_other, r.ends)) same ∙ ap (λ (l : List ℕ). take n l) r.whole ∙ take_at (frames r.batches) (r.gate ∷ r.after) n (omega (arith, r.ends)) in
    sym (take-append-drop n (drop offset other)) ∙ ap (λ (l : List ℕ). l ++ drop n (drop offset other)) has
    ∙ ap (λ (l : List ℕ). frames r.batches ++ l) (drop-drop n offset other ∙ ap (λ (k : ℕ). drop k other) at)

-- with a closed gate there they read as before
pub still : {layout : ℕ} (offset : ℕ) (image other : List ℕ) (inputs : List Input) (gate_at : ℕ) → ReadsTo layout offset image inputs gate_at
    → SameBytes offset (gate_at - offset) image other → gate_at < length other → get_or other gate_at 0 ≢ 1 → ReadsTo layout offset other inputs gate_at
still offset image other inputs gate_at r same in_other shut = record {
  batches = r.batches;
  gate = get_or other gate_at 0;
  after = drop (gate_at + 1) other;
  whole = before_gate offset image other inputs gate_at r same in_other ∙ ap (λ (l : List ℕ). frames r.batches ++ l) (drop_more other gate_at 0 in_other);
  sized = r.sized;
  closed = shut;
  same = r.same;
  ends = r.ends;
}

-- with a frame there they have its batch
pub added : {layout : ℕ} (offset : ℕ) (image other : List ℕ) (inputs batch : List Input) (gate_at : ℕ) (after : List ℕ) → ReadsTo layout offset image inputs gate_at
    → SameBytes offset (gate_at - offset) image other
    → drop gate_at other ≡ 1 ∷ (body batch ++ 0 ∷ after) → IsBatch layout batch → ReadsTo layout offset other (inputs ++ batch) (gate_at + 1 + length (body batch))
added offset image other inputs batch gate_at after r same framed is =
    let in_other : gate_at < length other = omega (arith, ap length framed, length-drop gate_at other) in
    record {
      batches = r.batches ++ batch ∷ [];
      gate = 0;
      after = after;
      whole = before_gate offset image other inputs gate_at r same in_other ∙ ap (λ (l : List ℕ). frames r.batches ++ l) framed ∙ sym (frames-push r.batches batch (0 ∷ after));
      sized = sized-push r.batches batch r.sized is;
      closed = omega arith;
      same = ap (λ (l : List Input). l ++ batch) r.same ∙ sym (joined-push r.batches batch);
      ends = omega (arith, r.ends, length-frames-push r.batches batch);
    }

-- the gate is closed
pub gate_closed : {layout : ℕ} (offset : ℕ) (image : List ℕ) (inputs : List Input) (gate_at : ℕ) → ReadsTo layout offset image inputs gate_at → get_or image gate_at 0 ≢ 1
gate_closed offset image inputs gate_at r is_open =
    let n = gate_at - offset in
    let at : offset + n ≡ gate_at = omega (arith, r.ends) in
    let none : n - n ≡ 0 = omega arith in
    let gate : get_or image gate_at 0 ≡ r.gate =
    ap (λ (k : ℕ). get_or image k 0) (sym at) ∙ sym (get_or-drop offset image n 0) ∙ ap (λ (l : List ℕ). get_or l n 0) r.whole
    ∙ get_or-append_right (frames r.batches) (r.gate ∷ r.after) n n 0 (omega (arith, r.ends)) (omega arith) ∙ ap (λ (k : ℕ). get_or (r.gate ∷ r.after) k 0) none in
    r.closed (sym gate ∙ is_open)

-- ---- the moments of a commit

-- while the frame is written
pub first_moment : {layout : ℕ} (offset : ℕ) (image now : List ℕ) (inputs batch : List Input) (gate_at n : ℕ) → ReadsTo layout offset image inputs gate_at
    → Changes (gate_at + 1) n image now → Appends layout offset inputs batch gate_at n image now
first_moment offset image now inputs batch gate_at n r change =
    let in_image = inside offset image inputs gate_at r in
    let in_now : gate_at < length now = omega (arith, in_image, change.no_shorter) in
    let low : offset ≤ gate_at = omega (arith, r.ends) in
    let gate : get_or now gate_at 0 ≡ get_or image gate_at 0 = change.same gate_at in_image (inl (omega arith)) in
    record {
      frames = inl (still offset image now inputs gate_at r (kept (gate_at + 1) n offset (gate_at - offset) image now change (inl (omega (arith, low), omega (arith, low, in_image)))) in_now
          (λ is_open. gate_closed offset image inputs gate_at r (sym gate ∙ is_open)));
      changes = widen (gate_at + 1) n gate_at (1 + n) image now (omega arith) (omega arith) change;
    }

-- the frame stands behind the gate once the first write has succeeded
pub staged : {layout : ℕ} (image mid bytes : List ℕ) (batch : List Input) (gate_at : ℕ) → IsFrame layout batch bytes → Puts (gate_at + 1) bytes image mid
    → drop (gate_at + 1) mid ≡ body batch ++ 0 ∷ drop (gate_at + 1 + length bytes) mid
staged image mid bytes batch gate_at frame put =
    let some : 0 < length bytes = omega (arith, ap length frame.bytes_are, length-append (body batch) (0 ∷ [])) in
    put_behind (gate_at + 1) bytes image mid some put ∙ ap (λ (l : List ℕ). l ++ drop (gate_at + 1 + length bytes) mid) frame.bytes_are
    ∙ append_assoc (body batch) (0 ∷ []) (drop (gate_at + 1 + length bytes) mid)

-- whatever stands at the gate while it is written, the batch is there or it is not
pub second_moment : {layout : ℕ} (offset : ℕ) (image mid now bytes : List ℕ) (inputs batch : List Input) (gate_at : ℕ) → ReadsTo layout offset image inputs gate_at
    → IsFrame layout batch bytes → Puts (gate_at + 1) bytes image mid → Changes gate_at 1 mid now
    → Appends layout offset inputs batch gate_at (length bytes) image now
second_moment {layout = layout} offset image mid now bytes inputs batch gate_at r frame put change =
    let n = length bytes in
    let first : Changes gate_at (1 + n) image mid = widen (gate_at + 1) n gate_at (1 + n) image mid (omega arith) (omega arith) (puts_changes (gate_at + 1) bytes image mid put) in
    let both : Changes gate_at (1 + n) image now = changes_trans gate_at (1 + n) image mid now first (widen gate_at 1 gate_at (1 + n) mid now (omega arith) (omega arith) change) in
    let in_image = inside offset image inputs gate_at r in
    let in_mid : gate_at < length mid = omega (arith, in_image, first.no_shorter) in
    let low : offset ≤ gate_at = omega (arith, r.ends) in
    let front = kept gate_at (1 + n) offset (gate_at - offset) image now both (inl (omega (arith, low), omega (arith, low, in_image))) in
    let long : length now ≡ length mid = omega (arith, change.no_shorter, change.no_longer, in_mid) in
    let in_now : gate_at < length now = omega (arith, long, in_mid) in
    let upper : drop (gate_at + 1) now ≡ drop (gate_at + 1) mid = drop_same (gate_at + 1) now mid long (λ i le. byte_above gate_at 1 mid now change i le) in
    let rest : drop (gate_at + 1) now ≡ body batch ++ 0 ∷ drop (gate_at + 1 + n) mid = upper ∙ staged image mid bytes batch gate_at frame put in
    let end : gate_at + 1 + length (body batch) ≡ gate_at + n = omega (arith, ap length frame.bytes_are, length-append (body batch) (0 ∷ [])) in
    record {
      frames = ⊎_elim
          (λ (is_open : get_or now gate_at 0 ≡ 1). inr (subst (λ (p : ℕ). ReadsTo layout offset now (inputs ++ batch) p) end
          (added offset image now inputs batch gate_at (drop (gate_at + 1 + n) mid) r front (drop_more now gate_at 0 in_now ∙ (λ i. is_open i ∷ rest i)) frame.is_batch)))
          (λ shut. inl (still offset image now inputs gate_at r front in_now shut))
          (cases_eq (get_or now gate_at 0) 1);
      changes = both;
    }

-- once the gate is written the batch is there
pub opened : {layout : ℕ} (offset : ℕ) (image mid now bytes : List ℕ) (inputs batch : List Input) (gate_at : ℕ) → ReadsTo layout offset image inputs gate_at → IsFrame layout batch bytes
    → Puts (gate_at + 1) bytes image mid → Puts gate_at (1 ∷ []) mid now
    → ReadsTo layout offset now (inputs ++ batch) (gate_at + length bytes) × Changes gate_at (1 + length bytes) image now
opened offset image mid now bytes inputs batch gate_at r frame put gate =
    let moment = second_moment offset image mid now bytes inputs batch gate_at r frame put (puts_changes gate_at (1 ∷ []) mid now gate) in
    let same : gate_at + 0 ≡ gate_at = omega arith in
    let is_open : get_or now gate_at 0 ≡ 1 = ap (λ (k : ℕ). get_or now k 0) (sym same) ∙ gate.here 0 (omega arith) in
    (⊎_elim (λ before. absurd (gate_closed offset now inputs gate_at before is_open)) (λ after. after) moment.frames, moment.changes)
