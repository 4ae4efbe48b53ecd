-- A new area, as it stands behind its gate.
use Rattle.std.proofs.Common.{◌≡◌, ℕ, zero, suc, ◌+◌, ◌*◌, ◌^◌, ◌<◌, ◌≤◌, List, [], ◌∷◌, ◌++◌, length, take, drop, get_or, set, refl, sym, ◌∙◌, ap, subst, arith, append_assoc, length-append, length-drop}
use Rattle.std.proofs.lemmas.List.{take_at, drop_at, drop-drop, get_or-drop}
use Rattle.std.proofs.lemmas.Nat.{from_be_bytes-to_be_bytes_4, from_be_bytes-to_be_bytes_8}
use Rattle.std.specs.Int.{w64, to_be_bytes}
use Rattle.disk_model.specs.Calls.{Puts}
use Rattle.ring_records.specs.declared.summary.Summary.{Summary}
use Rattle.ring_records.specs.Admission.{newest}
use Rattle.ring_records.specs.Snapshot.{Spells, snapshot_of, snapshot_len}
use Rattle.ring_records.proofs.Snapshots.{length-snapshot}
use Rattle.gated_journal.specs.Areas.{layout_at, epoch_at, size_at, snapshot_at}
use Rattle.gated_journal.specs.AreaWritten.{new_area, blank_area, IsStaged}
use Rattle.gated_journal.specs.Reading.{fresh_area, number_at}
use Rattle.gated_journal.proofs.Kept.{put_behind}

-- a number behind an offset
pub number_behind : (k a j : ℕ) (image : List ℕ) → number_at k (a + j) image ≡ number_at k j (drop a image)
number_behind zero a j image = refl
number_behind (suc k) a j image =
    let rest = number_behind k a j image in
    let at : a + j + k ≡ a + (j + k) = omega arith in
    let last : get_or image (a + j + k) 0 ≡ get_or (drop a image) (j + k) 0 = ap (λ (i : ℕ). get_or image i 0) at ∙ sym (get_or-drop a image (j + k) 0) in
    λ i. rest i * 256 + last i

module _ (other epoch : ℕ) (s : Summary) (after image : List ℕ) (here : drop (other + 1) image ≡ new_area newest epoch s ++ after) (small : epoch < 2 ^ 40) (short : snapshot_len newest s < 2 ^ 32) where
  -- the snapshot, and what is behind it
  behind : drop (other + 14) image ≡ snapshot_of newest s ++ (0 ∷ after)
  behind =
      let at : other + 1 + 13 ≡ other + 14 = omega arith in
      sym (drop-drop 13 (other + 1) image ∙ ap (λ (k : ℕ). drop k image) at) ∙ ap (λ (l : List ℕ). drop 13 l) here ∙ append_assoc (snapshot_of newest s) (0 ∷ []) after

  layout_is : layout_at other image ≡ newest
  layout_is =
      let at : other + 1 + 0 ≡ other + 1 = omega arith in
      ap (λ (k : ℕ). get_or image k 0) (sym at) ∙ sym (get_or-drop (other + 1) image 0 0) ∙ ap (λ (l : List ℕ). get_or l 0 0) here

  epoch_is : epoch_at other image ≡ epoch
  epoch_is =
      let at : other + 1 + 1 ≡ other + 2 = omega arith in
      ap (λ (k : ℕ). number_at 8 k image) (sym at) ∙ number_behind 8 (other + 1) 1 image ∙ ap (λ (l : List ℕ). number_at 8 1 l) here ∙ omega (arith, from_be_bytes-to_be_bytes_8 epoch (omega (arith, small)))

  size_is : size_at other image ≡ snapshot_len newest s
  size_is =
      let at : other + 1 + 9 ≡ other + 10 = omega arith in
      ap (λ (k : ℕ). number_at 4 k image) (sym at) ∙ number_behind 4 (other + 1) 9 image ∙ ap (λ (l : List ℕ). number_at 4 9 l) here ∙ omega (arith, from_be_bytes-to_be_bytes_4 (snapshot_len newest s) short)

  long : other + 15 + snapshot_len newest s ≤ length image
  long = omega (arith, ap length behind, length-drop (other + 14) image, length-append (snapshot_of newest s) (0 ∷ after), length-snapshot newest s)

  pub staged : (n : ℕ) → Spells newest n (snapshot_of newest s) s → IsStaged n other image (fresh_area newest epoch s) (other + 14 + snapshot_len newest s)
  staged n spells =
      let len = snapshot_len newest s in
      let found : snapshot_at other image ≡ snapshot_of newest s = (λ i. take (size_is i) (behind i)) ∙ take_at (snapshot_of newest s) (0 ∷ after) len (length-snapshot newest s) in
      let gate : drop (other + 14 + len) image ≡ 0 ∷ after = sym (drop-drop len (other + 14) image) ∙ ap (λ (l : List ℕ). drop len l) behind ∙ drop_at (snapshot_of newest s) (0 ∷ after) len (length-snapshot newest s) in
      record {
        there = omega (arith, long);
        base = record {
          layout = sym layout_is;
          known = (omega arith, omega arith);
          epoch = sym epoch_is;
          small = small;
          offset_is = ap (λ (k : ℕ). other + 14 + k) (sym size_is);
          there = omega (arith, long);
          snapshot = subst (λ (l : List ℕ). Spells newest n l s) (sym found) spells;
        };
        frames = record { batches = []; gate = 0; after = after; whole = gate; sized = tt; closed = omega arith; same = refl; ends = omega arith };
      }

-- the bytes were written behind the gate
pub staged_by : (n other epoch : ℕ) (s : Summary) (old new : List ℕ) → epoch < 2 ^ 40 → snapshot_len newest s < 2 ^ 32 → Spells newest n (snapshot_of newest s) s
    → Puts (other + 1) (new_area newest epoch s) old new
    → IsStaged n other new (fresh_area newest epoch s) (other + 14 + snapshot_len newest s)
staged_by n other epoch s old new small short spells put =
    staged other epoch s (drop (other + 1 + length (new_area newest epoch s)) new) new (put_behind (other + 1) (new_area newest epoch s) old new (omega arith) put) small short n spells

-- how long an area without frames is behind its gate
pub length-new_area : (layout epoch : ℕ) (s : Summary) → length (new_area layout epoch s) ≡ 14 + snapshot_len layout s
length-new_area layout epoch s = omega (arith, length-append (snapshot_of layout s) (0 ∷ []), length-snapshot layout s)

-- the layout and the epoch are written in front of a blank area
pub numbered : (s : Summary) (epoch : ℕ) (bytes whole part behind : List ℕ) (n : ℕ) → bytes ≡ blank_area newest s → n ≡ length bytes → whole ≡ set bytes 0 newest
    → part ≡ to_be_bytes w64 epoch
    → take n ((take 1 whole ++ (part ++ drop 8 (drop 1 whole))) ++ behind) ≡ new_area newest epoch s
numbered s epoch bytes whole part behind n bytes_are n_is whole_is part_is =
    let whole_now : whole ≡ set (blank_area newest s) 0 newest = whole_is ∙ ap (λ (l : List ℕ). set l 0 newest) bytes_are in
    let all : take 1 whole ++ (part ++ drop 8 (drop 1 whole)) ≡ new_area newest epoch s = λ i. take 1 (whole_now i) ++ (part_is i ++ drop 8 (drop 1 (whole_now i))) in
    let long : n ≡ length (new_area newest epoch s) = omega (arith, n_is, ap length bytes_are, length-append (snapshot_of newest s) (0 ∷ [])) in
    ap (λ (l : List ℕ). take n (l ++ behind)) all ∙ take_at (new_area newest epoch s) behind n (sym long)
