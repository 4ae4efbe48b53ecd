-- How many bytes inputs take, and how their records are joined.
use Rattle.std.proofs.Common.{◌≡◌, ℕ, ◌+◌, ◌*◌, ◌≤◌, List, [], ◌∷◌, ◌++◌, length, take, Ok, refl, sym, ◌∙◌, ap, subst, arith, append_assoc, length-append}
use Rattle.std.proofs.lemmas.List.{append-nil}
use Rattle.ring_records.specs.declared.input.Input.{Input}
use Rattle.ring_records.specs.Admission.{cost, costs_of, newest}
use Rattle.ring_records.specs.Record.{HasRecord, record_of}
use Rattle.ring_records.specs.RecordLists.{AreBytes}
use Rattle.ring_records.specs.RecordReading.{record_read}
use Rattle.ring_records.proofs.Counts.{costs-joined}
use Rattle.ring_records.proofs.Iteration.{IsItem, take-item}
use Rattle.ring_records.proofs.Records.{cost-record, record-found}
use Rattle.gated_journal.specs.Frames.{records, Suits, HaveRecords}
use Rattle.gated_journal.proofs.Suited.{newest-suits}

pub records-push : (inputs : List Input) (x : Input) → records (inputs ++ x ∷ []) ≡ records inputs ++ record_of x
records-push [] x = append-nil (record_of x)
records-push (y ∷ inputs) x = ap (λ (l : List ℕ). record_of y ++ l) (records-push inputs x) ∙ sym (append_assoc (record_of y) (records inputs) (record_of x))

pub have-push : (layout : ℕ) (inputs : List Input) (x : Input) → HaveRecords layout inputs → HasRecord x → Suits layout x → HaveRecords layout (inputs ++ x ∷ [])
have-push layout [] x have has suited = ((has, suited), tt)
have-push layout (y ∷ inputs) x have has suited = (have.0, have-push layout inputs x have.1 has suited)

-- the sum of the costs of these inputs, by which they are longer than their records, and its bound
pub record Sums (inputs : List Input) (sum count : ℕ) : Type 0 where
  pub same : sum ≡ costs_of inputs
  pub parts : sum ≡ length (records inputs) + 7 * count
  pub few : sum ≤ 42 * count

pub sums-none : Sums [] 0 0
sums-none = record { same = refl; parts = refl; few = omega arith }

pub sums-item : (inputs : List Input) (i : ℕ) (x : Input) (sum more : ℕ) → IsItem inputs i x → Sums (take i inputs) sum i → more ≡ cost x → more ≤ 42
    → Sums (take (i + 1) inputs) (sum + more) (i + 1)
sums-item inputs i x sum more here sums is small =
    let pushed : take (i + 1) inputs ≡ take i inputs ++ x ∷ [] = take-item inputs i x here in
    subst (λ (l : List Input). Sums l (sum + more) (i + 1)) (sym pushed) (record {
      same = omega (arith, sums.same, is, costs-joined (take i inputs) (x ∷ []));
      parts = omega (arith, sums.parts, is, cost-record x, ap length (records-push (take i inputs) x), length-append (records (take i inputs)) (record_of x));
      few = omega (arith, sums.few, small);
    })

-- what was written and is read again has a record
pub written-has : (x : Input) (n : ℕ) (out : List ℕ) → AreBytes (take n out) → ((rest : List ℕ) → record_read (take n out ++ rest) ≡ Ok (x, n)) → HasRecord x
written-has x n out are again = (record-found (take n out ++ []) x n (subst (λ (l : List ℕ). AreBytes l) (sym (append-nil (take n out))) (are)) (again [])).has

-- the records of the first inputs stand behind a head
pub record Spells (inputs : List Input) (head bytes : List ℕ) : Type 0 where
  pub bytes_are : bytes ≡ head ++ records inputs
  pub have : HaveRecords newest inputs

pub spells-item : (inputs : List Input) (i : ℕ) (x : Input) (head bytes more : List ℕ) → IsItem inputs i x → Spells (take i inputs) head bytes → more ≡ bytes ++ record_of x → HasRecord x
    → Spells (take (i + 1) inputs) head more
spells-item inputs i x head bytes more here spells is has =
    let pushed : take (i + 1) inputs ≡ take i inputs ++ x ∷ [] = take-item inputs i x here in
    subst (λ (l : List Input). Spells l head more) (sym pushed) (record {
      bytes_are = is ∙ ap (λ (l : List ℕ). l ++ record_of x) spells.bytes_are ∙ append_assoc head (records (take i inputs)) (record_of x) ∙ ap (λ (l : List ℕ). head ++ l) (sym (records-push (take i inputs) x));
      have = have-push newest (take i inputs) x spells.have has (newest-suits newest x (omega arith));
    })
