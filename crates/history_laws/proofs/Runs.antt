-- The parts of a legal run are linked, and each message in them came in a packet that rests on what its sender had then.
use Rattle.std.proofs.Common.{ℕ, ◌++◌, ◌≡◌, List, [], ◌∷◌, sym, ap, ◌∙◌, subst, inl, inr}
use Rattle.std.specs.List.{Contains}
use Rattle.std.proofs.lemmas.List.Elements.{filter_map-append}
use Rattle.ring_records.specs.declared.input.Input.{Input}
use Rattle.ring_records.specs.declared.input.Input.TheVariants.{Take}
use Rattle.ring_records.specs.Place.{before}
use Rattle.ring_records.specs.Ring.{IsCarried, MayFollow, IsLegal}
use Rattle.ring_records.specs.Part.{item_at, part}
use Rattle.ring_records.proofs.Growth.{EachAfter-at}
use Rattle.ring_records.proofs.Leader.{Contains-nil, Contains-cons_cases}
use Rattle.ring_records.proofs.Parts.{legal_parts}
use Rattle.history_laws.specs.Linked.{AreHanded, AreLinked}
use Rattle.history_laws.proofs.Handed.{links}

-- an item stands somewhere in its list
pub split_at : {A : Type 0} (xs : List A) (x : A) → Contains xs x → (front : List A) × (back : List A) × (xs ≡ front ++ x ∷ back)
split_at [] x here = Contains-nil x here
split_at (y ∷ xs) x here = elim (Contains-cons_cases y xs x here) [
  | inl e ↦ ([], xs, ap (λ z. z ∷ xs) e)
  | inr later ↦ (let r = split_at xs x later in (y ∷ r.0, r.1, ap (λ zs. y ∷ zs) r.2))
]

pub part-append : (run steps : List (ℕ × Input)) (i : ℕ) → part (run ++ steps) i ≡ part run i ++ part steps i
unfolding part
part-append run steps i = filter_map-append (item_at i) run steps

pub runs_handed : (n : ℕ) (run : List (ℕ × Input)) → IsLegal n run → AreHanded n (part run)
unfolding IsLegal IsCarried
runs_handed n run legal =
    let parts = legal_parts n run legal in
    record {
      lawful = λ i low high. parts.allowed i;
      named = λ i m low high p. (parts.origin (before n i) m (parts.linked i m p)).low;
      handed = λ i msg_no m low high p.
          let at = split_at run (i, Take msg_no m) (parts.in_run i (Take msg_no m) p) in
          let may : MayFollow n at.0 (i, Take msg_no m) = EachAfter-at (MayFollow n) [] at.0 (i, Take msg_no m) at.1 (subst (IsLegal n) at.2 legal) in (
            part at.0 (before n i),
            part ((i, Take msg_no m) ∷ at.1) (before n i),
            sym (ap (λ (r : List (ℕ × Input)). part r (before n i)) at.2 ∙ part-append at.0 ((i, Take msg_no m) ∷ at.1) (before n i)),
            may.carried,
          );
    }

pub runs : (n : ℕ) (run : List (ℕ × Input)) → IsLegal n run → AreLinked n (part run)
runs n run legal = links n (part run) (runs_handed n run legal)
