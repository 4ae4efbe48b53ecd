-- A reader with one piece more, and what it tells.
use Rattle.std.proofs.Common.{◌≡◌, ℕ, ◌+◌, ◌≤◌, List, [], ◌++◌, length, take, drop, sym, ◌∙◌, ap, subst, arith, append_assoc, length-append, length-take, take-append-drop}
use Rattle.ring_records.specs.declared.input.Input.{Input}
use Rattle.gated_journal.specs.Found.{IsFound, Holds, IsWaiting, IsOpen, AreAlike, IsReader}
use Rattle.gated_journal.specs.Pieces.{IsAreaDamaged}
use Rattle.gated_journal.specs.declared.found.Found.{Found}
use Rattle.gated_journal.specs.declared.found.Stage.{Stage}
use Rattle.gated_journal.specs.declared.found.Stage.TheVariants.{Head, Snapshot, Frames, Done, Damaged}

-- ---- while something stands next the bytes behind may be any

pub open_found : (layout n : ℕ) (stage : Stage) (snapshot : List ℕ) (inputs : List Input) (taken behind other : List ℕ) → IsOpen stage → IsFound layout n stage snapshot inputs taken behind
    → IsFound layout n stage snapshot inputs taken other
open_found layout n Head snapshot inputs taken behind other going f = f
open_found layout n (Snapshot left) snapshot inputs taken behind other going f = f
open_found layout n Frames snapshot inputs taken behind other going f = f
open_found layout n Done snapshot inputs taken behind other going f = absurd going
open_found layout n (Damaged at) snapshot inputs taken behind other going f = absurd going

-- once nothing does, more of them change nothing
pub closed_found : (layout n : ℕ) (stage : Stage) (snapshot : List ℕ) (inputs : List Input) (taken behind more : List ℕ) → (IsOpen stage → ⊥)
    → IsFound layout n stage snapshot inputs taken behind
    → IsFound layout n stage snapshot inputs taken (behind ++ more)
closed_found layout n Head snapshot inputs taken behind more closed f = absurd (closed tt)
closed_found layout n (Snapshot left) snapshot inputs taken behind more closed f = absurd (closed tt)
closed_found layout n Frames snapshot inputs taken behind more closed f = absurd (closed tt)
closed_found layout n Done snapshot inputs taken behind more closed f =
    (f.0, (f.1.0, (f.1.1.0 ++ more, (ap (λ (l : List ℕ). l ++ more) f.1.1.1.0, f.1.1.1.1))))
closed_found layout n (Damaged at) snapshot inputs taken behind more closed f = (
  f.0,
  λ rest. subst (λ (l : List ℕ). IsAreaDamaged layout n l at)
      (append_assoc taken behind (more ++ rest) ∙ (ap (λ (l : List ℕ). taken ++ l) (sym (append_assoc behind more rest)) ∙ sym (append_assoc taken (behind ++ more) rest))) (f.1 (more ++ rest)),
)

closed_waits : (stage : Stage) (behind more : List ℕ) → (IsOpen stage → ⊥) → IsWaiting stage (behind ++ more)
closed_waits Head behind more closed = absurd (closed tt)
closed_waits (Snapshot left) behind more closed = absurd (closed tt)
closed_waits Frames behind more closed = absurd (closed tt)
closed_waits Done behind more closed = tt
closed_waits (Damaged at) behind more closed = tt

-- ---- readers

pub reader_closed : (layout : ℕ) (found : Found) (rest bytes piece : List ℕ) → (IsOpen found.stage → ⊥) → IsReader layout found rest bytes → IsReader layout found rest (bytes ++ piece)
reader_closed layout found rest bytes piece closed r = record {
  taken = r.taken;
  behind = r.behind ++ piece;
  whole = ap (λ (l : List ℕ). l ++ piece) r.whole ∙ append_assoc r.taken r.behind piece;
  at = r.at;
  layout_is = r.layout_is;
  holds = closed_found layout found.snapshot.n found.stage found.snapshot.taken found.inputs.items r.taken r.behind piece closed r.holds;
  waits = closed_waits found.stage r.behind piece closed;
  rest_is = λ going. absurd (closed going);
  none = r.none;
}

-- what one alike to it holds
pub alike_holds : (layout : ℕ) (found other : Found) (taken behind : List ℕ) → AreAlike found other → Holds layout found taken behind → Holds layout other taken behind
alike_holds layout found other taken behind a holds =
    subst (λ (l : List Input). IsFound layout other.snapshot.n other.stage other.snapshot.taken l taken behind) (sym a.inputs)
    (subst (λ (l : List ℕ). IsFound layout other.snapshot.n other.stage l found.inputs.items taken behind) (sym a.snapshot)
    (subst (λ (s : Stage). IsFound layout other.snapshot.n s found.snapshot.taken found.inputs.items taken behind) (sym a.stage)
    (subst (λ (k : ℕ). IsFound layout k found.stage found.snapshot.taken found.inputs.items taken behind) (sym a.n) holds)))

pub reader_alike : (layout : ℕ) (found other : Found) (rest kept bytes : List ℕ) → AreAlike found other → kept ≡ rest → IsReader layout found rest bytes
    → IsReader layout other kept bytes
reader_alike layout found other rest kept bytes a same r = record {
  taken = r.taken;
  behind = r.behind;
  whole = r.whole;
  at = a.at ∙ r.at;
  layout_is = a.layout ∙ r.layout_is;
  holds = alike_holds layout found other r.taken r.behind a r.holds;
  waits = subst (λ (s : Stage). IsWaiting s r.behind) (sym a.stage) r.waits;
  rest_is = λ going. r.rest_is (subst IsOpen a.stage going) ∙ sym same;
  none = λ closed. same ∙ r.none (λ going. closed (subst IsOpen (sym a.stage) going));
}

-- the bytes of the rest and of the piece were taken up to here
pub reader_more : (layout size : ℕ) (found now : Found) (rest bytes piece left : List ℕ) → IsOpen found.stage → (r : IsReader layout found rest bytes)
    → now.snapshot.layout ≡ found.snapshot.layout → size ≤ length (rest ++ piece) → now.at ≡ found.at + size
    → Holds layout now (r.taken ++ take size (rest ++ piece)) (drop size (rest ++ piece)) → IsWaiting now.stage (drop size (rest ++ piece)) → (IsOpen now.stage → left ≡ drop size (rest ++ piece)) → ((IsOpen now.stage → ⊥) → left ≡ [])
    → IsReader layout now left (bytes ++ piece)
reader_more layout size found now rest bytes piece left going r layout_is fits at holds waits kept none =
    let all : List ℕ = rest ++ piece in
    record {
      taken = r.taken ++ take size all;
      behind = drop size all;
      whole = ap (λ (l : List ℕ). l ++ piece) (r.whole ∙ ap (λ (l : List ℕ). r.taken ++ l) (r.rest_is going)) ∙ (append_assoc r.taken rest piece
          ∙ (ap (λ (l : List ℕ). r.taken ++ l) (sym (take-append-drop size all)) ∙ sym (append_assoc r.taken (take size all) (drop size all))));
      at = omega (arith, at, r.at, length-append r.taken (take size all), length-take size all, fits);
      layout_is = layout_is ∙ r.layout_is;
      holds = holds;
      waits = waits;
      rest_is = λ still. sym (kept still);
      none = none;
    }
