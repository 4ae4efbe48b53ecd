-- A device with a header and area A.
use Rattle.std.proofs.Common.{◌≡◌, inl, ℕ, ◌+◌, ◌≤◌, List, [], ◌∷◌, ◌++◌, length, take, drop, replicate, get_or, true, false, refl, sym, ◌∙◌, ap, subst, arith, zero-add, take-append-drop}
use Rattle.std.proofs.lemmas.List.{get_or_past, nil_from_length, take_all}
use Rattle.std.proofs.lemmas.Nat.{from_be_bytes-to_be_bytes_4}
use Rattle.std.specs.FinMap as fin
use Rattle.std.specs.FinMap.{len-empty}
use Rattle.std.specs.Int.{w32, w64, to_be_bytes}
use Rattle.std.specs.List.{flat_map}
use Rattle.disk_model.specs.Calls.{Puts}
use Rattle.ring_records.specs.declared.key_state.KeyState.{KeyState}
use Rattle.ring_records.specs.Admission.{newest}
use Rattle.ring_records.specs.KeyOrder.{key_cmp, group_cmp}
use Rattle.ring_records.specs.Member.{Member}
use Rattle.ring_records.specs.Snapshot.{Spells, snapshot_of, counts_bytes, floors_bytes, state_bytes}
use Rattle.ring_records.specs.Summary.{empty}
use Rattle.ring_records.proofs.Snapshots.{length-empty, end_of, floors-end}
use Rattle.ring_records.proofs.SnapshotWhole.{keys-empty}
use Rattle.ring_records.proofs.Sound.{sound-empty}
use Rattle.ring_records.proofs.StatesInOrder.{len-values}
use Rattle.gated_journal.specs.Areas.{Counts, ReadsAt}
use Rattle.gated_journal.specs.AreaWritten.{new_areas, IsGate, IsStaged}
use Rattle.gated_journal.specs.Reading.{mark, fresh_area, number_at}
use Rattle.gated_journal.proofs.AreaStaged.{staged, length-new_area}
use Rattle.gated_journal.proofs.Kept.{put_behind, take_same}
use Rattle.gated_journal.proofs.Results.{not_both}

-- the snapshot of a node without inputs
snapshot-empty : snapshot_of newest empty ≡ replicate {A = ℕ} 42 0
unfolding snapshot_of counts_bytes
snapshot-empty =
    let known : fin.FinMap key_cmp KeyState = fin.empty in
    let none : fin.len known ≡ 0 = len-empty key_cmp KeyState in
    let keys : fin.values known ≡ [] = nil_from_length (fin.values known) (len-values known ∙ none) in
    let floors : floors_bytes newest empty ≡ end_of newest [] = floors-end newest empty ∙ ap (end_of newest) keys-empty in
    λ i. counts_bytes empty (none i) ++ flat_map state_bytes (keys i) ++ [] ++ floors i

-- each byte of a new device
pub bytes-new_areas : (header : Member)
    → new_areas header ≡ mark ++ header.node ∷ header.n ∷ to_be_bytes w32 header.capacity ++ 0 ∷ 0 ∷ 1 ∷ 3 ∷ to_be_bytes w64 1 ++ to_be_bytes w32 42 ++ replicate {A = ℕ} 43 0
bytes-new_areas header =
    λ i. mark ++ header.node ∷ header.n ∷ to_be_bytes w32 header.capacity ++ 0 ∷ 0 ∷ 1 ∷ 3 ∷ to_be_bytes w64 1 ++ to_be_bytes w32 (length-empty newest (omega arith) i) ++ snapshot-empty i ++ 0 ∷ []

-- how many bytes that is
pub length-new_areas : (header : Member) → length (new_areas header) ≡ 73
length-new_areas header = omega (arith, length-new_area newest 1 empty, length-empty newest (omega arith))

-- Area A is read where the device begins so and area B does not count.
module _ (header : Member) (new rest : List ℕ) (from : 4096 ≤ header.capacity) (to : header.capacity ≤ 1048576) (whole : new ≡ new_areas header ++ rest) (none : Counts (31 + header.capacity) new → ⊥) where
  stage : IsStaged header.n 16 new (fresh_area newest 1 empty) 72
  stage =
      let spells : Spells newest header.n (snapshot_of newest empty) empty = record { is = refl; sound = sound-empty header.n; few_keys = omega (arith, len-empty key_cmp KeyState); few_floors = omega (arith, len-empty group_cmp ℕ); none = λ old. refl; plain = λ old. refl } in
      subst (λ (k : ℕ). IsStaged header.n 16 new (fresh_area newest 1 empty) (30 + k)) (length-empty newest (omega arith))
      (staged 16 1 empty rest new (ap (λ (l : List ℕ). drop 17 l) whole) (omega arith) (omega (arith, length-empty newest (omega arith))) header.n spells)

  pub laid : ReadsAt header new (fresh_area newest 1 empty) 16 (31 + header.capacity) 72 72
  laid =
      let same : get_or new 16 0 ≡ 1 = ap (λ (l : List ℕ). get_or l 16 0) whole in
      record {
        head = record {
          marked = inl (ap (λ (l : List ℕ). take 8 l) whole);
          node = ap (λ (l : List ℕ). get_or l 8 0) whole;
          n = ap (λ (l : List ℕ). get_or l 9 0) whole;
          capacity = ap (λ (l : List ℕ). number_at 4 10 l) whole ∙ omega (arith, from_be_bytes-to_be_bytes_4 header.capacity (omega (arith, to)));
          from = from;
          to = to;
          blank = ap (λ (l : List ℕ). number_at 2 14 l) whole;
        };
        areas = record { both = omega arith; one = λ ne. absurd (ne refl) };
        begins = inl (same, stage.base);
        older = λ c. absurd (none c);
        frames = stage.frames;
        within = omega (arith, from);
      }

-- ---- the writes

-- the header and area A alone: there was no byte of area B
module _ (header : Member) (old new : List ℕ) (from : 4096 ≤ header.capacity) (to : header.capacity ≤ 1048576) (short : length old ≤ 31 + header.capacity) (put : Puts 0 (new_areas header) old new) where
  few : length new ≤ 31 + header.capacity
  few = let long = length-new_areas header in omega (arith, put.size (omega (arith, long)), long, short, from)

  pub laid_short : ReadsAt header new (fresh_area newest 1 empty) 16 (31 + header.capacity) 72 72
  laid_short =
      laid header new (drop (0 + length (new_areas header)) new) from to (put_behind 0 (new_areas header) old new (omega (arith, length-new_areas header)) put)
      (λ c. let past : get_or new (31 + header.capacity) 0 ≡ 0 = get_or_past new (31 + header.capacity) 0 few in omega (arith, c.gate, past))

  pub gate_short : IsGate false (31 + header.capacity) new
  gate_short = record { shut = λ no. not_both (sym no); not_shut = λ yes lt. absurd (omega (arith, lt, few)) }

-- and 0 to the gate of area B, which was there
module _ (header : Member) (old mid new : List ℕ) (from : 4096 ≤ header.capacity) (to : header.capacity ≤ 1048576) (put : Puts 0 (new_areas header) old mid) (close : Puts (31 + header.capacity) (0 ∷ []) mid new) where
  is_zero : get_or new (31 + header.capacity) 0 ≡ 0
  is_zero = let at : 31 + header.capacity + 0 ≡ 31 + header.capacity = omega arith in ap (λ (k : ℕ). get_or new k 0) (sym at) ∙ close.here 0 (omega arith)

  whole : new ≡ new_areas header ++ drop 73 new
  whole =
      let bytes = new_areas header in
      let long = length-new_areas header in
      let in_mid : 73 ≤ length mid = omega (arith, put.size (omega (arith, long)), long) in
      let in_new : 73 ≤ length new = omega (arith, close.size (omega arith), in_mid) in
      let first : take 73 new ≡ take 73 bytes =
      take_same 73 new bytes in_new (omega (arith, long))
      (λ i lt. close.others i (inl (omega (arith, lt, from))) ∙ ap (λ (k : ℕ). get_or mid k 0) (sym (zero-add i)) ∙ put.here i (omega (arith, lt, long))) in
      sym (take-append-drop 73 new) ∙ ap (λ (l : List ℕ). l ++ drop 73 new) (first ∙ take_all 73 bytes (omega (arith, long)))

  pub laid_long : ReadsAt header new (fresh_area newest 1 empty) 16 (31 + header.capacity) 72 72
  laid_long = laid header new (drop 73 new) from to whole (λ c. omega (arith, c.gate, is_zero))

  pub gate_long : IsGate true (31 + header.capacity) new
  gate_long = record { shut = λ yes. (omega (arith, close.size (omega arith)), λ is. omega (arith, is, is_zero)); not_shut = λ no. not_both no }
