-- Records taken from the front of bytes, one after the other.
use Rattle.std.proofs.Common.{◌≡◌, ℕ, eqb, true, false, ◌+◌, ◌<◌, ◌≤◌, List, [], ◌∷◌, ◌++◌, length, take, drop, refl, sym, ◌∙◌, ap, arith, append_assoc, length-append, take-append-drop}
use Rattle.std.specs.Int.{w16, w32, to_be_bytes}
use Rattle.std.proofs.lemmas.List.{append-nil, append_cancel_left, take_at}
use Rattle.ring_records.specs.declared.input.Input.{Input}
use Rattle.ring_records.specs.Record.{record_of}
use Rattle.ring_records.specs.RecordReading.{BeginsWith}
use Rattle.ring_records.proofs.Records.{records-apart}
use Rattle.gated_journal.specs.Frames.{records, Suits, HaveRecords}
use Rattle.gated_journal.specs.NextFrame.{HasHead, TakesRecords, TakesFrame}
use Rattle.gated_journal.proofs.Spelled.{records-push, have-push}

-- one record more
pub taken_more : {layout : ℕ} (old mid : List Input) (count size : ℕ) (bytes rest : List ℕ) (x : Input) → TakesRecords layout old mid count bytes rest → BeginsWith rest x size → Suits layout x
    → TakesRecords layout old (mid ++ x ∷ []) (count + 1) bytes (drop size rest)
taken_more {layout = layout} old mid count size bytes rest x taken begins suited =
    let rest_is : rest ≡ record_of x ++ drop size rest = sym (take-append-drop size rest) ∙ ap (λ (l : List ℕ). l ++ drop size rest) begins.front in
    record {
      batch = taken.batch ++ x ∷ [];
      added = ap (λ (l : List Input). l ++ x ∷ []) taken.added ∙ append_assoc old taken.batch (x ∷ []);
      many = omega (arith, length-append taken.batch (x ∷ []), taken.many);
      have = have-push layout taken.batch x taken.have begins.has suited;
      spelled = taken.spelled ∙ ap (λ (l : List ℕ). records taken.batch ++ l) rest_is ∙ sym (append_assoc (records taken.batch) (record_of x) (drop size rest))
          ∙ ap (λ (l : List ℕ). l ++ drop size rest) (sym (records-push taken.batch x));
    }

-- what is left of a batch behind those that were taken
record Left (layout : ℕ) (got batch : List Input) (rest : List ℕ) : Type 0 where
  more : List Input
  many : length batch ≡ length got + length more
  have : HaveRecords layout more
  rest_is : rest ≡ records more

left : (layout : ℕ) (got batch : List Input) (rest : List ℕ) → HaveRecords layout got → HaveRecords layout batch → length got ≤ length batch → records got ++ rest ≡ records batch
    → Left layout got batch rest
left layout [] batch rest had have le e = record { more = batch; many = omega arith; have = have; rest_is = e }
left layout (x ∷ got) [] rest had have le e = absurd (omega (arith, le))
left layout (x ∷ got) (y ∷ batch) rest had have le e =
    let parts : record_of x ++ (records got ++ rest) ≡ record_of y ++ records batch = sym (append_assoc (record_of x) (records got) rest) ∙ e in
    let first : x ≡ y = records-apart x y (records got ++ rest) (records batch) had.0.0 have.0.0 parts in
    let same : record_of x ++ (records got ++ rest) ≡ record_of x ++ records batch = parts ∙ ap (λ (z : Input). record_of z ++ records batch) (sym first) in
    let behind = left layout got batch rest had.1 have.1 (omega (arith, le)) (append_cancel_left (record_of x) (records got ++ rest) (records batch) same) in
    record { more = behind.more; many = omega (arith, behind.many); have = behind.have; rest_is = behind.rest_is }

-- where no record follows that suits there were no more
pub no_record : {layout : ℕ} (old new batch : List Input) (got : ℕ) (bytes rest : List ℕ) → TakesRecords layout old new got bytes rest
    → ((x : Input) (n : ℕ) → BeginsWith rest x n → Suits layout x → ⊥) → got < length batch → HaveRecords layout batch → bytes ≡ records batch → ⊥
no_record {layout = layout} old new batch got bytes rest taken broken fewer have whole =
    let behind = left layout taken.batch batch rest taken.have have (omega (arith, taken.many, fewer)) (sym taken.spelled ∙ whole) in
    starts behind.more behind.have (omega (arith, behind.many, taken.many, fewer)) behind.rest_is
  where
    starts : (more : List Input) → HaveRecords layout more → 0 < length more → rest ≡ records more → ⊥
    starts [] have some is = omega (arith, some)
    starts (y ∷ more) have some is =
        broken y (length (record_of y)) (record {
          has = have.0.0;
          len = refl;
          whole = omega (arith, ap length is, length-append (record_of y) (records more));
          front = ap (take (length (record_of y))) is ∙ take_at (record_of y) (records more) (length (record_of y)) refl;
        }) have.0.1

-- where something follows there were not just so many
pub no_rest : {layout : ℕ} (old new batch : List Input) (got : ℕ) (bytes rest : List ℕ) → TakesRecords layout old new got bytes rest → eqb (length rest) 0 ≡ false → length batch ≡ got
    → HaveRecords layout batch → bytes ≡ records batch → ⊥
no_rest {layout = layout} old new batch got bytes rest taken some many have whole =
    let behind = left layout taken.batch batch rest taken.have have (omega (arith, taken.many, many)) (sym taken.spelled ∙ whole) in
    ends behind.more (omega (arith, behind.many, taken.many, many)) behind.rest_is
  where
    ends : (more : List Input) → length more ≡ 0 → rest ≡ records more → ⊥
    ends [] none is = let empty : eqb (length rest) 0 ≡ true = ap (λ (l : List ℕ). eqb (length l) 0) is in cc
    ends (y ∷ more) none is = omega (arith, none)

-- the records of a frame, behind its head
pub whole_frame : {layout : ℕ} (old new : List Input) (count : ℕ) (tail found : List ℕ) → HasHead tail count found → TakesRecords layout old new count found []
    → TakesFrame layout old new tail (6 + length found)
whole_frame old new count tail found h t =
    let same : found ≡ records t.batch = t.spelled ∙ append-nil (records t.batch) in
    let rest : List ℕ = drop (6 + length found) tail in
    record {
      batch = t.batch;
      rest = rest;
      added = t.added;
      is_batch = record { some = omega (arith, t.many, h.some); few = omega (arith, t.many, h.few); have = t.have };
      framed = h.whole ∙ (λ i. to_be_bytes w16 (sym t.many i) ++ (to_be_bytes w32 (length (same i)) ++ (same i ++ rest)));
      size_is = omega (arith, ap (λ (l : List ℕ). length l) same);
    }
