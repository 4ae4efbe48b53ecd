-- An area that a reader is fed piece after piece: what was fed of it, and what is read or damaged then.
use Rattle.std.proofs.Common.{◌≡◌, ◌⊎◌, inl, inr, ⊎_elim, ℕ, ◌+◌, ◌-◌, ◌≤◌, List, ◌++◌, length, take, drop, Result, Ok, Err, IfOk, sym, ◌∙◌, ap, subst, arith, length-drop, take-append-drop}
use Rattle.std.proofs.lemmas.List.{drop-drop, take_all}
use Rattle.ring_records.specs.declared.input.Input.{Input}
use Rattle.ring_records.specs.declared.refusal.Refusal.{Refusal}
use Rattle.ring_records.specs.declared.refusal.Refusal.TheVariants.{Damaged, OutOfMemory}
use Rattle.ring_records.specs.declared.summary.Summary.{Summary}
use Rattle.gated_journal.specs.Feeding.{fed_to, IsFed, IsAreaAt, IsContentless}
use Rattle.gated_journal.specs.Pieces.{Pieces, with_piece, IsAreaRead, IsAreaDamaged, IsPieceDamaged}
use Rattle.gated_journal.specs.declared.area_reader.Fed.{Fed}
use Rattle.gated_journal.specs.declared.area_reader.Fed.TheVariants.{Done}
use Rattle.gated_journal.proofs.AreaParts.{take_plus}

module _ (layout n start : ℕ) (image : List ℕ) where
  -- ---- the bytes that were fed

  behind : (at : ℕ) → start ≤ at → drop (at - start) (drop start image) ≡ drop at image
  behind at from =
      let here : start + (at - start) ≡ at = omega (arith, from) in
      drop-drop (at - start) start image ∙ ap (λ (k : ℕ). drop k image) here

  -- with the next ones
  joined : (at size : ℕ) → start ≤ at → take (at - start) (drop start image) ++ take size (drop at image) ≡ take (at + size - start) (drop start image)
  joined at size from =
      ap (λ (l : List ℕ). take (at - start) (drop start image) ++ take size l) (sym (behind at from)) ∙ take_plus (at - start) size (at + size - start) (drop start image) (omega (arith, from))

  -- with all that are left
  whole : (at : ℕ) → start ≤ at → take (at - start) (drop start image) ++ drop at image ≡ drop start image
  whole at from = ap (λ (l : List ℕ). take (at - start) (drop start image) ++ l) (sym (behind at from)) ∙ take-append-drop (at - start) (drop start image)

  pub fed_more : (at size : ℕ) (p q : Pieces) (before now : Result Fed Refusal) → start ≤ at → p ≡ fed_to layout n start image at before
      → q ≡ with_piece p (take size (drop at image)) now
      → q ≡ fed_to layout n start image (at + size) now
  fed_more at size p q before now from is next =
      let piece : List ℕ = take size (drop at image) in
      let bytes = joined at size from in
      let more : with_piece (fed_to layout n start image at before) piece now ≡ fed_to layout n start image (at + size) now = λ i. record { offset = start; layout = layout; n = n; bytes = bytes i; answer = now } in
      next ∙ (ap (λ (r : Pieces). with_piece r piece now) is ∙ more)

  -- the same of one that tells
  pub fed_next : (at there : ℕ) (piece : List ℕ) (p q : Pieces) (before : Result Fed Refusal) (told wanted : Fed) → start ≤ at → p ≡ fed_to layout n start image at before
      → piece ≡ take there (drop at image) → told ≡ wanted
      → q ≡ with_piece p piece (Ok told) → q ≡ fed_to layout n start image (at + there) (Ok wanted)
  fed_next at there piece p q before told wanted from is part same next =
      fed_more at there p q before (Ok wanted) from is (next ∙ (λ i. with_piece p (part i) (Ok (same i))))

  pub fed_done : (end : ℕ) (q : Pieces) → start ≤ end → end ≤ length image → q ≡ fed_to layout n start image end (Ok Done) → IsFed layout n start image q
  fed_done end q from to is =
      let answer : q.answer ≡ Ok Done = ap (λ (r : Pieces). r.answer) is in
      record { end = end; from = from; to = to; is = is ∙ ap (λ (a : Result Fed Refusal). fed_to layout n start image end a) (sym answer); whole = inl answer }

  -- ---- what is told of them

  pub piece_damaged : (at there : ℕ) (piece : List ℕ) (p : Pieces) (answer : Result Fed Refusal) (refusal : Refusal) → start ≤ at → p ≡ fed_to layout n start image at answer
      → piece ≡ take there (drop at image)
      → (refusal ≡ OutOfMemory) ⊎ IsPieceDamaged p piece refusal → IsContentless layout n start image refusal
  piece_damaged at there piece p answer refusal from is part told =
      ⊎_elim (λ memory. record { cause = inl memory })
      (λ (was : IsPieceDamaged p piece refusal).
      let d : IsPieceDamaged (fed_to layout n start image at answer) (take there (drop at image)) refusal = subst (λ (l : List ℕ). IsPieceDamaged (fed_to layout n start image at answer) l refusal) part (subst (λ (q : Pieces). IsPieceDamaged q piece refusal) is was) in
      let all = ap (λ (l : List ℕ). l ++ drop (at + there) image) (joined at there from) ∙ whole (at + there) (omega (arith, from)) in
      record { cause = inr (d.at, (d.is, subst (λ (l : List ℕ). IsAreaDamaged layout n l d.at) all (d.damaged (drop (at + there) image)))) }) told

  module _ (reader : Pieces) (f : IsFed layout n start image reader) where
    pub area_at : (s : Summary) (inputs : List Input) (gate_at : ℕ)
        → (at : ℕ) × ((gate_at ≡ reader.offset + at) × ((more : List ℕ) → IsAreaRead reader.layout reader.n (reader.bytes ++ more) s inputs at)) → IsAreaAt layout n start image s inputs gate_at
    area_at s inputs gate_at was =
        let r = subst (λ (p : Pieces). (at : ℕ) × ((gate_at ≡ p.offset + at) × ((more : List ℕ) → IsAreaRead p.layout p.n (p.bytes ++ more) s inputs at))) f.is was in
        record { at = r.0; gate_is = r.1.0; read = subst (λ (l : List ℕ). IsAreaRead layout n l s inputs r.0) (whole f.end f.from) (r.1.1 (drop f.end image)) }

    pub area_damaged : (refusal : Refusal) → (reader.answer ≡ Ok Done → ⊥)
        → (at : ℕ) × ((refusal ≡ Damaged (reader.offset + at)) × IsAreaDamaged reader.layout reader.n reader.bytes at)
        → IsContentless layout n start image refusal
    area_damaged refusal not_done was =
        let d = subst (λ (p : Pieces). (at : ℕ) × ((refusal ≡ Damaged (p.offset + at)) × IsAreaDamaged p.layout p.n p.bytes at)) f.is was in
        let ends : f.end ≡ length image = ⊎_elim (λ done. absurd (not_done done)) (λ end. end) f.whole in
        let all : take (f.end - start) (drop start image) ≡ drop start image = take_all (f.end - start) (drop start image) (omega (arith, ends, length-drop start image)) in
        record { cause = inr (d.0, (d.1.0, subst (λ (l : List ℕ). IsAreaDamaged layout n l d.0) all d.1.1)) }

-- ---- one piece

pub fed_now : (told : Result Fed Refusal) (p q : Pieces) (piece found : List ℕ) → piece ≡ found → (told ≡ Err OutOfMemory) ⊎ (q ≡ with_piece p piece told)
    → IfOk told (λ fed. q ≡ with_piece p found (Ok fed))
fed_now (Ok fed) p q piece found same is = ⊎_elim (λ (none : Ok fed ≡ Err OutOfMemory). absurd cc) (λ next. next ∙ ap (λ (l : List ℕ). with_piece p l (Ok fed)) same) is
fed_now (Err refusal) p q piece found same is = tt
