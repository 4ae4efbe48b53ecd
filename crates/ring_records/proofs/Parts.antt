-- What the parts of a legal run are.
use Rattle.std.proofs.Common.{ℕ, ◌≡◌, ◌≤◌, cond, List, [], ◌∷◌, ◌++◌, Some, None, refl, sym, ap, ◌∙◌, subst, inl, inr}
use Rattle.std.specs.List.{Contains, cons_option}
use Rattle.std.proofs.lemmas.List.{append-nil}
use Rattle.std.proofs.lemmas.Bool.{cases_eq, eq-eqb, ne_eqb}
use Rattle.std.proofs.lemmas.List.Elements.{Contains-push_cases, Contains-append_left, Contains-push}
use Rattle.ring_records.specs.declared.msg.Msg.{Msg}
use Rattle.ring_records.specs.declared.input.Input.{Input}
use Rattle.ring_records.specs.declared.input.Input.TheVariants.{Stand, Take, Acked, Retire}
use Rattle.ring_records.specs.Allowed.{IsAllowed}
use Rattle.ring_records.specs.Emission.{emit, sent}
use Rattle.ring_records.specs.History.{message_of, taken}
use Rattle.ring_records.specs.Lists.{EachAfter, found_after}
use Rattle.ring_records.specs.Message.{candidate_of}
use Rattle.ring_records.specs.Place.{before}
use Rattle.ring_records.specs.Ring.{IsCarried, MayFollow, IsLegal}
use Rattle.ring_records.specs.Part.{item_at, part}
use Rattle.ring_records.proofs.Emission.{emit-candidate}
use Rattle.ring_records.proofs.History.{taken-push, sent-push}
use Rattle.ring_records.proofs.Lists.{along, none≢some, EachAfter-push, Contains-option_cases, Contains-option_kept, Contains-slice_get}
use Rattle.ring_records.proofs.OneKey.{none_in}
use Rattle.ring_records.proofs.Ring.{part-push}

-- a node of a ring of n
pub record IsNode (n i : ℕ) : Type 0 where
  pub low : 1 ≤ i
  pub high : i ≤ n

-- each input was allowed in its part; what is taken was sent by the node before; each message names a node of the
-- ring, and only nodes of the ring have inputs; run and parts have the same inputs
pub record Parts (n : ℕ) (run : List (ℕ × Input)) : Type 0 where
  pub allowed : (i : ℕ) → EachAfter (IsAllowed i n) [] (part run i)
  pub linked : (i : ℕ) (m : Msg) → Contains (taken (part run i)) m → Contains (sent (before n i) (part run (before n i))) m
  pub origin : (i : ℕ) (m : Msg) → Contains (sent i (part run i)) m → IsNode n (candidate_of m).node
  pub in_run : (i : ℕ) (x : Input) → Contains (part run i) x → Contains run (i, x)
  pub in_part : (i : ℕ) (x : Input) → Contains run (i, x) → Contains (part run i) x
  pub in_ring : (i : ℕ) (x : Input) → Contains (part run i) x → IsNode n i
  pub takers : (i : ℕ) (m : Msg) → Contains (taken (part run i)) m → IsNode n i

-- a message that is taken was sent
carried-sent : (n : ℕ) (run : List (ℕ × Input)) (i : ℕ) (x : Input) (m : Msg) → IsCarried n run i x → message_of x ≡ Some m → Contains (sent (before n i) (part run (before n i))) m
unfolding IsCarried message_of
carried-sent n run i (Stand key b) m c e = none≢some m e
carried-sent n run i (Take msg_no t) m c e = subst (λ (u : Msg). Contains (sent (before n i) (part run (before n i))) u) (let p : t ≡ m = cc in p) (Contains-slice_get _ msg_no t c)
carried-sent n run i (Acked upto) m c e = none≢some m e
carried-sent n run i (Retire group new) m c e = none≢some m e

module _ (n : ℕ) (run : List (ℕ × Input)) (j : ℕ) (x : Input) where
  pub part-same : part (run ++ (j, x) ∷ []) j ≡ part run j ++ x ∷ []
  unfolding item_at
  part-same = part-push run (j, x) j ∙ ap (λ b. part run j ++ cons_option (cond b (Some x) None) []) (eq-eqb j j refl)

  pub part-other : (i : ℕ) → (j ≡ i → ⊥) → part (run ++ (j, x) ∷ []) i ≡ part run i
  unfolding item_at
  part-other i ne = part-push run (j, x) i ∙ (ap (λ b. part run i ++ cons_option (cond b (Some x) None) []) (ne_eqb j i ne) ∙ append-nil (part run i))

  -- a fact of each node and its part, which the step at j keeps
  pub by_node : (F : ℕ → List Input → Type 0) → F j (part run j ++ x ∷ []) → ((i : ℕ) → F i (part run i)) → (i : ℕ) → F i (part (run ++ (j, x) ∷ []) i)
  by_node F new old i = elim (cases_eq j i) [
    | inl e ↦ subst (λ k. F k (part (run ++ (j, x) ∷ []) k)) e (subst (F j) (sym part-same) new)
    | inr ne ↦ subst (F i) (sym (part-other i ne)) (old i)
  ]

  sent-more : (i : ℕ) (m : Msg) → Contains (sent i (part run i)) m → Contains (sent i (part (run ++ (j, x) ∷ []) i)) m
  sent-more i m p = elim (cases_eq j i) [
    | inl e ↦ subst (λ k. Contains (sent k (part (run ++ (j, x) ∷ []) k)) m) e (rw (part-same, sent-push) (Contains-option_kept (sent j (part run j)) _ m (subst (λ k. Contains (sent k (part run k)) m) (sym e) p)))
    | inr ne ↦ rw (part-other i ne) p
  ]

  module _ (node : IsNode n j) (allowed : IsAllowed j n (part run j) x) (carried : IsCarried n run j x) (f : Parts n run) where
    linked-new : (m : Msg) → Contains (taken (part run j ++ x ∷ [])) m → Contains (sent (before n j) (part run (before n j))) m
    linked-new m p = elim (Contains-option_cases (taken (part run j)) (message_of x) m (rw taken-push at p)) [
      | inl q ↦ f.linked j m q
      | inr e ↦ carried-sent n run j x m carried e
    ]

    linked-next : (i : ℕ) (m : Msg) → Contains (taken (part (run ++ (j, x) ∷ []) i)) m → Contains (sent (before n i) (part (run ++ (j, x) ∷ []) (before n i))) m
    linked-next i m p = sent-more (before n i) m (by_node (λ k h. Contains (taken h) m → Contains (sent (before n k) (part run (before n k))) m) (linked-new m) (λ k. f.linked k m) i p)

    origin-new : (m : Msg) → Contains (sent j (part run j ++ x ∷ [])) m → IsNode n (candidate_of m).node
    origin-new m p = elim (Contains-option_cases (sent j (part run j)) (emit j (part run j) x) m (rw sent-push at p)) [
      | inl q ↦ f.origin j m q
      | inr e ↦ elim (emit-candidate j (part run j) x m e) [
        | inl own ↦ subst (IsNode n) (sym own) node
        | inr t ↦ rw (← t.2) (f.origin (before n j) t.0 (carried-sent n run j x t.0 carried t.1))
      ]
    ]

    in_run-new : (y : Input) → Contains (part run j ++ x ∷ []) y → Contains (run ++ (j, x) ∷ []) (j, y)
    in_run-new y p = elim (Contains-push_cases (part run j) x y p) [
      | inl q ↦ Contains-append_left run ((j, x) ∷ []) (j, y) (f.in_run j y q)
      | inr e ↦ subst (λ (z : Input). Contains (run ++ (j, x) ∷ []) (j, z)) e (Contains-push run (j, x))
    ]

    in_part-next : (i : ℕ) (y : Input) → Contains (run ++ (j, x) ∷ []) (i, y) → Contains (part (run ++ (j, x) ∷ []) i) y
    in_part-next i y p = elim (Contains-push_cases run (j, x) (i, y) p) [
      | inl q ↦ by_node (λ k h. Contains (part run k) y → Contains h y) (λ r. Contains-append_left (part run j) (x ∷ []) y r) (λ k r. r) i (f.in_part i y q)
      | inr e ↦ subst (λ (s : ℕ × Input). Contains (part (run ++ (j, x) ∷ []) s.0) s.1) e (rw part-same (Contains-push (part run j) x))
    ]

    Parts-next : Parts n (run ++ (j, x) ∷ [])
    Parts-next = record {
      allowed = by_node (λ i h. EachAfter (IsAllowed i n) [] h) (EachAfter-push (IsAllowed j n) [] (part run j) x (f.allowed j) allowed) f.allowed;
      linked = linked-next;
      origin = λ i m. by_node (λ k h. Contains (sent k h) m → IsNode n (candidate_of m).node) (origin-new m) (λ k. f.origin k m) i;
      in_run = λ i y. by_node (λ k h. Contains h y → Contains (run ++ (j, x) ∷ []) (k, y)) (in_run-new y) (λ k q. Contains-append_left run ((j, x) ∷ []) (k, y) (f.in_run k y q)) i;
      in_part = in_part-next;
      in_ring = λ i y. by_node (λ k h. Contains h y → IsNode n k) (λ p. node) (λ k q. f.in_ring k y q) i;
      takers = λ i m. by_node (λ k h. Contains (taken h) m → IsNode n k) (λ p. node) (λ k q. f.takers k m q) i;
    }

Parts-start : (n : ℕ) → Parts n []
unfolding EachAfter part taken sent found_after
Parts-start n = record {
  allowed = λ i. tt;
  linked = λ i m p. none_in m p;
  origin = λ i m p. none_in m p;
  in_run = λ i x p. none_in x p;
  in_part = λ i x p. none_in (i, x) p;
  in_ring = λ i x p. none_in x p;
  takers = λ i m p. none_in m p;
}

pub legal_parts : (n : ℕ) (run : List (ℕ × Input)) → IsLegal n run → Parts n run
unfolding IsLegal
legal_parts n run legal =
    along (MayFollow n) (Parts n) (λ r s a f. Parts-next n r s.0 s.1 (record { low = a.first; high = a.last }) a.allowed a.carried f) [] run legal (Parts-start n)
