-- A loop that reads so many items.
use Rattle.std.proofs.Common.{ℕ, suc, ◌≡◌, List, [], ◌∷◌, ◌++◌, Ok, Err, refl, sym, ap, subst, ◌∙◌, append_assoc, append-nil, inl}
use Rattle.std.specs.Prelude.{Result}
use Rattle.ring_records.specs.declared.record.RecordFault.{RecordFault}
use Rattle.ring_records.specs.declared.refusal.Refusal.TheVariants as refused
use Rattle.ring_records.specs.RecordReading.{◌>>=◌}
use Rattle.ring_records.specs.SnapshotRead.{items_at, behind_these, IsBroken}

pub one_read : {A : Type 0} (f : List ℕ → Result (A × List ℕ) RecordFault) (found : Result (List A × List ℕ) RecordFault) (xs : List A) (rest after : List ℕ) (x : A) (n m : ℕ)
    → found ≡ behind_these xs (items_at f n rest) → n ≡ suc m → f rest ≡ Ok (x, after) → found ≡ behind_these (xs ++ x ∷ []) (items_at f m after)
unfolding items_at
one_read {A = A} f found xs rest after x n m e is read =
    e ∙ (ap (λ k. behind_these xs (items_at f k rest)) is ∙ (ap (λ r. behind_these xs (r >>= (λ y. items_at f m y.1 >>= (λ ys. Ok (y.0 ∷ ys.0, ys.1))))) read ∙ go (items_at f m after)))
  where
    go : (r : Result (List A × List ℕ) RecordFault) → behind_these xs (r >>= (λ ys. Ok (x ∷ ys.0, ys.1))) ≡ behind_these (xs ++ x ∷ []) r
    go (Ok p) = λ i. Ok (sym (append_assoc xs (x ∷ []) p.0) i, p.1)
    go (Err fault) = refl

pub none_read : {A : Type 0} (f : List ℕ → Result (A × List ℕ) RecordFault) (found : Result (List A × List ℕ) RecordFault) (xs : List A) (rest : List ℕ) (n m : ℕ) (fault : RecordFault)
    → found ≡ behind_these xs (items_at f n rest) → n ≡ suc m → f rest ≡ Err fault → found ≡ Err fault
unfolding items_at
none_read f found xs rest n m fault e is read = e ∙ (ap (λ k. behind_these xs (items_at f k rest)) is ∙ ap (λ r. behind_these xs (r >>= (λ y. items_at f m y.1 >>= (λ ys. Ok (y.0 ∷ ys.0, ys.1))))) read)

pub all_read : {A : Type 0} (f : List ℕ → Result (A × List ℕ) RecordFault) (found : Result (List A × List ℕ) RecordFault) (xs : List A) (rest : List ℕ) (n : ℕ)
    → found ≡ behind_these xs (items_at f n rest) → n ≡ 0 → found ≡ Ok (xs, rest)
unfolding items_at
all_read f found xs rest n e is = e ∙ (ap (λ k. behind_these xs (items_at f k rest)) is ∙ (λ i. Ok (append-nil xs i, rest)))

pub broken : {A : Type 0} (found : Result A RecordFault) (fault : RecordFault) → found ≡ Err fault → IsBroken (refused.Damaged 0) found
broken found fault e = subst (IsBroken (refused.Damaged 0)) (sym e) (inl refl)
