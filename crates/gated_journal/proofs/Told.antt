-- What is told of the bytes that were fed so far.
use Rattle.std.proofs.Common.{◌≡◌, inl, inr, ℕ, ◌+◌, ◌≤◌, ◌<◌, List, [], ◌++◌, length, Result, Ok, Err, IfErr, refl, sym, ap, subst, arith, append-nil, length-append}
use Rattle.ring_records.specs.declared.input.Input.{Input}
use Rattle.ring_records.specs.declared.refusal.Refusal.{Refusal}
use Rattle.ring_records.specs.declared.refusal.Refusal.TheVariants as refused
use Rattle.ring_records.specs.declared.summary.Summary.{Summary}
use Rattle.ring_records.specs.Snapshot.{Spells}
use Rattle.gated_journal.specs.Found.{InFrames, IsFound, IsWaiting, IsOpen, IsReader, answer_of}
use Rattle.gated_journal.specs.Pieces.{IsAreaRead, IsAreaDamaged, IsAreaFront}
use Rattle.gated_journal.specs.declared.area_reader.Fed.TheVariants as fed
use Rattle.gated_journal.specs.declared.found.Found.{Found}
use Rattle.gated_journal.specs.declared.found.Stage.{Stage}
use Rattle.gated_journal.specs.declared.found.Stage.TheVariants.{Head, Snapshot, Frames, Done, Damaged}
use Rattle.gated_journal.proofs.Pieces.{head_missing, too_short, snapshot_front, not_framed, frames_front, more_frames, not_both}
use Rattle.gated_journal.proofs.Shorts.{no_framed, few_kept}

-- ---- what each answer says of the stage

pub is_more : (offset : ℕ) (stage : Stage) → answer_of offset stage ≡ Ok fed.More → IsOpen stage
is_more offset Head e = tt
is_more offset (Snapshot left) e = tt
is_more offset Frames e = tt
is_more offset Done e = absurd cc
is_more offset (Damaged at) e = absurd cc

pub is_open : (offset : ℕ) (stage : Stage) → IsOpen stage → answer_of offset stage ≡ Ok fed.More
is_open offset Head going = refl
is_open offset (Snapshot left) going = refl
is_open offset Frames going = refl
is_open offset Done going = absurd going
is_open offset (Damaged at) going = absurd going

pub is_done : (offset : ℕ) (stage : Stage) → answer_of offset stage ≡ Ok fed.Done → stage ≡ Done
is_done offset Head e = absurd cc
is_done offset (Snapshot left) e = absurd cc
is_done offset Frames e = absurd cc
is_done offset Done e = refl
is_done offset (Damaged at) e = absurd cc

pub is_damaged : (offset : ℕ) (stage : Stage) (refusal : Refusal) → answer_of offset stage ≡ Err refusal → (at : ℕ) × ((stage ≡ Damaged at) × (refusal ≡ refused.Damaged (offset + at)))
is_damaged offset Head refusal e = absurd cc
is_damaged offset (Snapshot left) refusal e = absurd cc
is_damaged offset Frames refusal e = absurd cc
is_damaged offset Done refusal e = absurd cc
is_damaged offset (Damaged at) refusal e = (at, (refl, cc))

-- a growth that was refused is no answer
pub not_memory : {A : Type 0} (offset : ℕ) (stage : Stage) → answer_of offset stage ≡ Err refused.OutOfMemory → A
not_memory offset stage e = let is = (is_damaged offset stage refused.OutOfMemory e).1.1 in absurd cc

pub each_err : {T E : Type 0} (r : Result T E) (P : E → Type 0) → ((e : E) → r ≡ Err e → P e) → IfErr r P
each_err (Ok x) P each = tt
each_err (Err e) P each = each e refl

-- ---- while something stands next

front_of : (layout n : ℕ) (stage : Stage) (snapshot : List ℕ) (inputs : List Input) (taken behind : List ℕ) → IsOpen stage → IsFound layout n stage snapshot inputs taken behind
    → IsWaiting stage behind
    → IsAreaFront layout n (taken ++ behind) (length behind)
front_of layout n Head snapshot inputs taken behind going f waits = inl (omega (arith, waits, ap length f.0, length-append taken behind), omega (arith, ap length f.0, length-append taken behind))
front_of layout n (Snapshot left) snapshot inputs taken behind going f waits = inr (inl (snapshot_front layout n snapshot taken behind left f.0 waits.0 waits.1))
front_of layout n Frames snapshot inputs taken behind going f waits = inr (inr (frames_front layout n snapshot taken behind inputs f waits))
front_of layout n Done snapshot inputs taken behind going f waits = absurd going
front_of layout n (Damaged at) snapshot inputs taken behind going f waits = absurd going

-- ---- the whole area

module _ (layout : ℕ) (found : Found) (rest bytes : List ℕ) (r : IsReader layout found rest bytes) where
  done_frames : found.stage ≡ Done → IsFound layout found.snapshot.n Done found.snapshot.taken found.inputs.items r.taken r.behind
  done_frames is = subst (λ (s : Stage). IsFound layout found.snapshot.n s found.snapshot.taken found.inputs.items r.taken r.behind) is r.holds

  pub done_read : found.stage ≡ Done → (base : Summary) → Spells found.snapshot.layout found.snapshot.n found.snapshot.taken base → (more : List ℕ)
      → IsAreaRead layout found.snapshot.n (bytes ++ more) base found.inputs.items found.at
  done_read is base spells more =
      let f = (done_frames is).0 in
      let other : InFrames layout found.snapshot.n found.snapshot.taken r.taken found.inputs.items =
      record { head = f.head; base = base; batches = f.batches; is_head = f.is_head; spells = subst (λ (k : ℕ). Spells k found.snapshot.n found.snapshot.taken base) r.layout_is spells; taken_is = f.taken_is; sized = f.sized; same = f.same } in
      let read = more_frames layout found.snapshot.n found.snapshot.taken r.taken r.behind found.inputs.items other (done_frames is).1 more in
      subst (λ (k : ℕ). IsAreaRead layout found.snapshot.n (bytes ++ more) base found.inputs.items k) (sym r.at)
      (subst (λ (l : List ℕ). IsAreaRead layout found.snapshot.n (l ++ more) base found.inputs.items (length r.taken)) (sym r.whole) read)

  -- its snapshot is that of a summary
  pub done_base : found.stage ≡ Done → (base : Summary) × Spells found.snapshot.layout found.snapshot.n found.snapshot.taken base
  done_base is = let f = (done_frames is).0 in (f.base, subst (λ (k : ℕ). Spells k found.snapshot.n found.snapshot.taken f.base) (sym r.layout_is) f.spells)

  -- ---- a damaged one

  pub for_good : (at : ℕ) → found.stage ≡ Damaged at → (more : List ℕ) → IsAreaDamaged layout found.snapshot.n (bytes ++ more) at
  for_good at is more =
      let held = subst (λ (s : Stage). IsFound layout found.snapshot.n s found.snapshot.taken found.inputs.items r.taken r.behind) is r.holds in
      subst (λ (l : List ℕ). IsAreaDamaged layout found.snapshot.n (l ++ more) at) (sym r.whole) (held.1 more)

  pub low : (at : ℕ) → found.stage ≡ Damaged at → at ≤ length bytes
  low at is =
      let held = subst (λ (s : Stage). IsFound layout found.snapshot.n s found.snapshot.taken found.inputs.items r.taken r.behind) is r.holds in
      omega (arith, held.0, ap length r.whole, length-append r.taken r.behind)

  pub at_low : found.at ≤ length bytes
  at_low = omega (arith, r.at, ap length r.whole, length-append r.taken r.behind)

  pub now_damaged : (at : ℕ) → found.stage ≡ Damaged at → IsAreaDamaged layout found.snapshot.n bytes at
  now_damaged at is = subst (λ (l : List ℕ). IsAreaDamaged layout found.snapshot.n l at) (append-nil bytes) (for_good at is [])

  whole_is : (at : ℕ) → IsAreaDamaged layout found.snapshot.n (r.taken ++ r.behind) at → IsAreaDamaged layout found.snapshot.n bytes at
  whole_is at damaged = subst (λ (l : List ℕ). IsAreaDamaged layout found.snapshot.n l at) (sym r.whole) damaged

  pub head_damaged : found.stage ≡ Head → IsAreaDamaged layout found.snapshot.n bytes 0
  head_damaged is =
      let held = subst (λ (s : Stage). IsFound layout found.snapshot.n s found.snapshot.taken found.inputs.items r.taken r.behind) is r.holds in
      let waits : length r.behind < 14 = subst (λ (s : Stage). IsWaiting s r.behind) is r.waits in
      whole_is 0 (head_missing layout found.snapshot.n (r.taken ++ r.behind) (omega (arith, waits, ap length held.0, length-append r.taken r.behind)))

  pub snapshot_damaged : (left : ℕ) → found.stage ≡ Snapshot left → IsAreaDamaged layout found.snapshot.n bytes 0
  snapshot_damaged left is =
      let held = subst (λ (s : Stage). IsFound layout found.snapshot.n s found.snapshot.taken found.inputs.items r.taken r.behind) is r.holds in
      let waits = subst (λ (s : Stage). IsWaiting s r.behind) is r.waits in
      whole_is 0 (too_short layout found.snapshot.n found.snapshot.taken r.taken r.behind left held.0 waits.0)

  pub frames_damaged : found.stage ≡ Frames → IsAreaDamaged layout found.snapshot.n bytes found.at
  frames_damaged is =
      let held = subst (λ (s : Stage). IsFound layout found.snapshot.n s found.snapshot.taken found.inputs.items r.taken r.behind) is r.holds in
      let waits = subst (λ (s : Stage). IsWaiting s r.behind) is r.waits in
      subst (λ (k : ℕ). IsAreaDamaged layout found.snapshot.n bytes k) (sym r.at) (whole_is (length r.taken) (not_framed layout found.snapshot.n found.snapshot.taken r.taken r.behind found.inputs.items held (no_framed r.behind waits)))

  -- while something stands next they are no whole area
  open_damaged : (stage : Stage) → found.stage ≡ stage → IsOpen stage → (at : ℕ) × IsAreaDamaged layout found.snapshot.n bytes at
  open_damaged Head is going = (0, head_damaged is)
  open_damaged (Snapshot left) is going = (0, snapshot_damaged left is)
  open_damaged Frames is going = (found.at, frames_damaged is)
  open_damaged Done is going = absurd going
  open_damaged (Damaged at) is going = absurd going

  pub not_whole : IsOpen found.stage → (s : Summary) (inputs : List Input) (gate_at : ℕ) → IsAreaRead layout found.snapshot.n bytes s inputs gate_at → ⊥
  not_whole going s inputs gate_at read = let d = open_damaged found.stage refl going in not_both layout found.snapshot.n bytes s inputs gate_at d.0 read d.1

  -- and the front of one, of which the rest is kept
  pub area_front : IsOpen found.stage → IsAreaFront layout found.snapshot.n bytes (length rest)
  area_front going =
      subst (λ (l : List ℕ). IsAreaFront layout found.snapshot.n l (length rest)) (sym r.whole)
      (subst (λ (l : List ℕ). IsAreaFront layout found.snapshot.n (r.taken ++ r.behind) (length l)) (r.rest_is going)
      (front_of layout found.snapshot.n found.stage found.snapshot.taken found.inputs.items r.taken r.behind going r.holds r.waits))

  pub rest_few : length rest ≤ 2246
  rest_few = few found.stage refl
    where
      few : (stage : Stage) → found.stage ≡ stage → length rest ≤ 2246
      few Head is = few_kept layout found.snapshot.n bytes (length rest) (area_front (subst IsOpen (sym is) tt))
      few (Snapshot left) is = few_kept layout found.snapshot.n bytes (length rest) (area_front (subst IsOpen (sym is) tt))
      few Frames is = few_kept layout found.snapshot.n bytes (length rest) (area_front (subst IsOpen (sym is) tt))
      few Done is = omega (arith, ap length (r.none (λ going. subst IsOpen is going)))
      few (Damaged at) is = omega (arith, ap length (r.none (λ going. subst IsOpen is going)))

-- ---- a new reader
