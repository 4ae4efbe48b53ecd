-- What stands behind an offset, and in the whole image.
use Rattle.std.proofs.Common.{◌≡◌, ⊎_elim, inl, inr, ℕ, ◌+◌, List, [], ◌∷◌, ◌++◌, take, drop, get_or, refl, sym, ◌∙◌, ap, arith}
use Rattle.std.proofs.lemmas.List.{drop-drop, get_or-drop}
use Rattle.ring_records.specs.declared.input.Input.{Input}
use Rattle.gated_journal.specs.Areas.{layout_at, epoch_at, size_at, snapshot_at}
use Rattle.gated_journal.specs.Damage.{NoFrame, IsDamagedAt}
use Rattle.gated_journal.specs.Frames.{frames, ReadsTo}
use Rattle.gated_journal.proofs.AreaHeads.{number_moved}

module _ (start : ℕ) (image : List ℕ) where
  -- ---- a head

  byte_at : (i j : ℕ) → start + i ≡ j → get_or (drop start image) i 0 ≡ get_or image j 0
  byte_at i j is = get_or-drop start image i 0 ∙ ap (λ (k : ℕ). get_or image k 0) is

  pub gate_behind : get_or (drop start image) 0 0 ≡ get_or image start 0
  gate_behind = byte_at 0 start (omega arith)

  pub layout_behind : layout_at 0 (drop start image) ≡ layout_at start image
  layout_behind = byte_at 1 (start + 1) refl

  pub epoch_behind : epoch_at 0 (drop start image) ≡ epoch_at start image
  epoch_behind = number_moved 8 2 (start + 2) (drop start image) image (λ i lt. byte_at (2 + i) (start + 2 + i) (omega arith))

  pub size_behind : size_at 0 (drop start image) ≡ size_at start image
  size_behind = number_moved 4 10 (start + 10) (drop start image) image (λ i lt. byte_at (10 + i) (start + 10 + i) (omega arith))

  -- ---- what is behind it

  tail_at : (k j : ℕ) → start + k ≡ j → drop k (drop start image) ≡ drop j image
  tail_at k j is = drop-drop k start image ∙ ap (λ (i : ℕ). drop i image) is

  pub snapshot_behind : snapshot_at 0 (drop start image) ≡ snapshot_at start image
  snapshot_behind =
      let size = size_behind in
      let tail = tail_at 14 (start + 14) refl in
      λ i. take (size i) (tail i)

  pub reads_behind : {layout : ℕ} (offset from gate_at end : ℕ) (inputs : List Input) → start + offset ≡ from → start + gate_at ≡ end
      → ReadsTo layout offset (drop start image) inputs gate_at → ReadsTo layout from image inputs end
  reads_behind offset from gate_at end inputs begins stops r = record {
    batches = r.batches;
    gate = r.gate;
    after = r.after;
    whole = sym (tail_at offset from begins) ∙ r.whole;
    sized = r.sized;
    closed = r.closed;
    same = r.same;
    ends = omega (arith, r.ends, begins, stops);
  }

  pub damaged_behind : {layout : ℕ} (offset from gate_at end : ℕ) → start + offset ≡ from → start + gate_at ≡ end → IsDamagedAt layout offset (drop start image) gate_at
      → IsDamagedAt layout from image end
  damaged_behind {layout = layout} offset from gate_at end begins stops d =
      let tails = tail_at gate_at end stops in
      record {
        inputs = d.inputs;
        up_to = record {
          batches = d.up_to.batches;
          whole = sym (tail_at offset from begins) ∙ (d.up_to.whole ∙ ap (λ (l : List ℕ). frames d.up_to.batches ++ l) tails);
          sized = d.up_to.sized;
          same = d.up_to.same;
          ends = omega (arith, d.up_to.ends, begins, stops);
        };
        broken = ⊎_elim (λ (none : drop gate_at (drop start image) ≡ []). inl (sym tails ∙ none))
            (λ (some : (tail : List ℕ) × ((drop gate_at (drop start image) ≡ 1 ∷ tail) × NoFrame layout tail)). inr (some.0, (sym tails ∙ some.1.0, some.1.1))) d.broken;
      }
