-- Frames alone, taken from the front of bytes.
use Rattle.std.proofs.Common.{◌≡◌, ℕ, zero, suc, ◌+◌, ◌-◌, List, [], ◌∷◌, ◌++◌, take, drop, length, inr, ◌≤◌, take-append-drop, length-take, length-drop, refl, sym, ◌∙◌, ap, subst, arith}
use Rattle.std.proofs.lemmas.List.{append-nil, drop-drop, take_at}
use Rattle.ring_records.specs.declared.input.Input.{Input}
use Rattle.gated_journal.specs.Damage.{NoFrame, ReadsUpTo, IsDamagedAt}
use Rattle.gated_journal.specs.Found.{IsClosed}
use Rattle.gated_journal.specs.Frames.{body, frames, ReadsTo}
use Rattle.gated_journal.specs.Listed.{Lists, IsStuck, IsListed}
use Rattle.gated_journal.specs.NextFrame.{TakesFrame}
use Rattle.gated_journal.specs.declared.found.Stage.{Stage}
use Rattle.gated_journal.specs.Pieces.{IsNextFront, IsEnough}
use Rattle.gated_journal.proofs.AreaParts.{take_plus}
use Rattle.gated_journal.proofs.Behind.{frames-push, joined-push, sized-push}
use Rattle.gated_journal.proofs.Pieces.{none_behind}
use Rattle.gated_journal.proofs.Shorts.{no_framed}

-- one frame more
pub lists_more : {layout : ℕ} (taken bytes tail : List ℕ) (old new : List Input) (size : ℕ) → Lists layout taken old → bytes ≡ 1 ∷ tail → TakesFrame layout old new tail size
    → Lists layout (taken ++ take (1 + size) bytes) new
lists_more taken bytes tail old new size l is t =
    let batch = t.batch in
    let text : List ℕ = 1 ∷ body batch in
    let part : take (1 + size) bytes ≡ text = ap (λ (l : List ℕ). take (1 + size) l) (is ∙ ap (λ (l : List ℕ). 1 ∷ l) t.framed) ∙ take_at text t.rest (1 + size) (omega (arith, t.size_is)) in
    let all : frames l.batches ++ text ≡ frames (l.batches ++ batch ∷ []) =
    ap (λ (b : List ℕ). frames l.batches ++ (1 ∷ b)) (sym (append-nil (body batch))) ∙ (sym (frames-push l.batches batch []) ∙ append-nil (frames (l.batches ++ batch ∷ []))) in
    record {
      batches = l.batches ++ batch ∷ [];
      taken_is = (λ i. l.taken_is i ++ part i) ∙ all;
      sized = sized-push l.batches batch l.sized t.is_batch;
      same = t.added ∙ (ap (λ (b : List Input). b ++ batch) l.same ∙ sym (joined-push l.batches batch));
    }

-- no frame stands there
pub is_stuck : {layout : ℕ} (behind tail : List ℕ) → behind ≡ 1 ∷ tail → IsEnough tail → NoFrame layout tail → IsStuck layout behind
is_stuck behind tail is enough none = record { tail = tail; is = is; none = λ more. none_behind tail more enough none }

-- ---- bytes of an image

take_nil : (m : ℕ) → ◌≡◌ {A = List ℕ} (take m []) []
take_nil zero = refl
take_nil (suc m) = refl

pub drop_taken : (m j : ℕ) (l : List ℕ) → drop m (take j l) ≡ take (j - m) (drop m l)
drop_taken zero j l = ap (λ (k : ℕ). take k l) (omega arith)
drop_taken (suc m) zero l = let none : 0 ≡ 0 - suc m = omega arith in ap (λ (k : ℕ). take k (drop (suc m) l)) none
drop_taken (suc m) (suc j) [] = sym (take_nil (suc j - suc m))
drop_taken (suc m) (suc j) (x ∷ l) = drop_taken m j l ∙ ap (λ (k : ℕ). take k (drop m l)) (omega arith)

-- what was taken, with what is taken next
pub joined_at : (start at size : ℕ) (image : List ℕ) → start ≤ at → take (at - start) (drop start image) ++ take size (drop at image) ≡ take (at + size - start) (drop start image)
joined_at start at size image from =
    let here : start + (at - start) ≡ at = omega (arith, from) in
    let behind : drop (at - start) (drop start image) ≡ drop at image = drop-drop (at - start) start image ∙ ap (λ (k : ℕ). drop k image) here in
    ap (λ (l : List ℕ). take (at - start) (drop start image) ++ take size l) (sym behind) ∙ take_plus (at - start) size (at + size - start) (drop start image) (omega (arith, from))

-- what was taken behind what was taken before
pub listed_at : (layout start at size : ℕ) (image now : List ℕ) (stage : Stage) (old new : List Input) (rest : List ℕ) → now ≡ image → start ≤ at
    → Lists layout (take (at - start) (drop start image)) old
    → ((taken : List ℕ) → Lists layout taken old → IsListed layout stage (taken ++ take size (drop at now)) new rest) → IsListed layout stage (take (at + size - start) (drop start image)) new rest
listed_at layout start at size image now stage old new rest same from lists step =
    subst (λ (l : List ℕ). IsListed layout stage l new rest) (ap (λ (l : List ℕ). take (at - start) (drop start image) ++ take size (drop at l)) same ∙ joined_at start at size image from)
    (step (take (at - start) (drop start image)) lists)

module _ (layout start at : ℕ) (image : List ℕ) (from : start ≤ at) (to : at ≤ length image) where
  split : drop start image ≡ take (at - start) (drop start image) ++ drop at image
  split =
      let here : start + (at - start) ≡ at = omega (arith, from) in
      sym (take-append-drop (at - start) (drop start image)) ∙ ap (λ (l : List ℕ). take (at - start) (drop start image) ++ l) (drop-drop (at - start) start image ∙ ap (λ (k : ℕ). drop k image) here)

  ends_at : (batches : List (List Input)) → take (at - start) (drop start image) ≡ frames batches → at ≡ start + length (frames batches)
  ends_at batches is = omega (arith, ap (λ (l : List ℕ). length l) is, length-take (at - start) (drop start image), length-drop start image, from, to)

  up_to : (inputs : List Input) → Lists layout (take (at - start) (drop start image)) inputs → ReadsUpTo layout start image inputs at
  up_to inputs l = record { batches = l.batches; whole = split ∙ ap (λ (b : List ℕ). b ++ drop at image) l.taken_is; sized = l.sized; same = l.same; ends = ends_at l.batches l.taken_is }

  -- a closed gate stands there
  pub list_read : (inputs : List Input) (n : ℕ) → Lists layout (take (at - start) (drop start image)) inputs → IsClosed (take n (drop at image)) → ReadsTo layout start image inputs at
  list_read inputs n l closed =
      let behind : drop at image ≡ closed.0 ∷ (closed.1.0 ++ drop n (drop at image)) = sym (take-append-drop n (drop at image)) ∙ ap (λ (b : List ℕ). b ++ drop n (drop at image)) closed.1.1.0 in
      record {
        batches = l.batches;
        gate = closed.0;
        after = closed.1.0 ++ drop n (drop at image);
        whole = split ∙ (λ i. l.taken_is i ++ behind i);
        sized = l.sized;
        closed = closed.1.1.1;
        same = l.same;
        ends = ends_at l.batches l.taken_is;
      }

  -- or what is no frame
  pub list_stuck : (found : List Input) (n : ℕ) → Lists layout (take (at - start) (drop start image)) found → IsStuck layout (take n (drop at image)) → IsDamagedAt layout start image at
  list_stuck found n l s =
      let behind : drop at image ≡ 1 ∷ (s.tail ++ drop n (drop at image)) = sym (take-append-drop n (drop at image)) ∙ ap (λ (b : List ℕ). b ++ drop n (drop at image)) s.is in
      record { inputs = found; up_to = up_to found l; broken = inr (s.tail ++ drop n (drop at image), (behind, s.none (drop n (drop at image)))) }

  -- or the image ends before that is known
  pub list_ends : (inputs : List Input) → Lists layout (take (at - start) (drop start image)) inputs → IsNextFront (drop at image) → IsDamagedAt layout start image at
  list_ends inputs l front = record { inputs = inputs; up_to = up_to inputs l; broken = no_framed (drop at image) front }
