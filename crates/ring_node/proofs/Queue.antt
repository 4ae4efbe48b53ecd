-- Tickets that are open, in the order in which they were given.
use Rattle.std.proofs.Common.{arith, ◌≡◌, ℕ, suc, ◌<◌, ◌≤◌, false, List, [], ◌∷◌, ◌++◌, cond, nat_eq, length, Some, refl, ap, subst, ◌∙◌}
use Rattle.std.specs.List.{cons_option, filter, filter_map}
use Rattle.std.specs.Map.{lookup, remove_entry}
use Rattle.std.proofs.lemmas.Bool.{eq-eqb}
use Rattle.std.proofs.lemmas.Bool.Decides.{nat_tests}
use Rattle.ring_records.specs.Answer.{Answered}
use Rattle.group_commit.specs.Ticket.{TicketView, ticket_with}
use Rattle.ring_node.specs.Open.{Open, is_due, serial_of}
use Rattle.ring_node.specs.Held.{HeldView, MatchFirst, AreHeld, shown_with}

-- ---- the queue

-- a ticket is put behind the others
pub put_behind : (now kept before : List HeldView) (h : HeldView) → now ≡ kept ++ h ∷ [] → kept ≡ before → now ≡ before ++ h ∷ []
put_behind now kept before h is same = is ∙ ap (λ (l : List HeldView). l ++ h ∷ []) same

-- a new node has none
pub held_none : (node run top : ℕ) → AreHeld node run 0 top [] []
unfolding AreHeld
held_none node run top = omega arith

module _ (node run : ℕ) where
  -- a ticket more
  pub held_more : (from to until own : ℕ) (a : Answered) (h : HeldView) (ts : List (ℕ × Answered)) (hs : List HeldView) → h.ticket ≡ ticket_with node run own a → to ≤ a.answer.number
      → a.answer.number ≤ until
      → AreHeld node run from to ts hs → AreHeld node run from until (ts ++ (own, a) ∷ []) (hs ++ h ∷ [])
  unfolding AreHeld
  held_more from to until own a h [] [] is low high held = record { is = is; no_fewer = omega (arith, held, low); others = high }
  held_more from to until own a h [] (x ∷ hs) is low high held = absurd held
  held_more from to until own a h (t ∷ ts) [] is low high held = absurd held
  held_more from to until own a h (t ∷ ts) (x ∷ hs) is low high held = record {
    is = held.is;
    no_fewer = held.no_fewer;
    others = held_more t.1.answer.number to until own a h ts hs is low high held.others;
  }

  pub shown_more : (from to own : ℕ) (a : Answered) (h : HeldView) (ts : List (ℕ × Answered)) (hs : List HeldView) → AreHeld node run from to ts hs
      → shown_with (ts ++ (own, a) ∷ []) (hs ++ h ∷ []) ≡ shown_with ts hs ++ record { serial = h.serial; kept = a } ∷ []
  unfolding AreHeld shown_with
  shown_more from to own a h [] [] held = refl
  shown_more from to own a h [] (x ∷ hs) held = absurd held
  shown_more from to own a h (t ∷ ts) [] held = absurd held
  shown_more from to own a h (t ∷ ts) (x ∷ hs) held = ap (λ (os : List Open). record { serial = x.serial; kept = t.1 } ∷ os) (shown_more t.1.answer.number to own a h ts hs held.others)

  -- the first ticket, and those behind it
  pub record First (from to : ℕ) (tickets : List (ℕ × Answered)) (h : HeldView) (rest : List HeldView) : Type 0 where
    pub own : ℕ
    pub kept : Answered
    pub others : List (ℕ × Answered)
    pub are : tickets ≡ (own, kept) ∷ others
    pub is : h.ticket ≡ ticket_with node run own kept
    pub low : from ≤ kept.answer.number
    pub held : AreHeld node run kept.answer.number to others rest

  first_of : (from to : ℕ) (ts : List (ℕ × Answered)) (h : HeldView) (hs : List HeldView) → AreHeld node run from to ts (h ∷ hs) → First from to ts h hs
  unfolding AreHeld
  first_of from to [] h hs held = absurd held
  first_of from to (t ∷ ts) h hs held = record { own = t.0; kept = t.1; others = ts; are = refl; is = held.is; low = held.no_fewer; held = held.others }

  pub first : (from to : ℕ) (ts : List (ℕ × Answered)) (h : HeldView) (hs queue : List HeldView) → queue ≡ h ∷ hs → AreHeld node run from to ts queue → First from to ts h hs
  first from to ts h hs queue is held = first_of from to ts h hs (subst (λ (l : List HeldView). AreHeld node run from to ts l) is held)

  none_of : (from to : ℕ) (ts : List (ℕ × Answered)) → AreHeld node run from to ts [] → ts ≡ []
  unfolding AreHeld
  none_of from to [] held = refl
  none_of from to (t ∷ ts) held = absurd held

  -- where the queue is empty, no ticket is open
  pub none_open : (from to : ℕ) (ts : List (ℕ × Answered)) (queue : List HeldView) → queue ≡ [] → AreHeld node run from to ts queue → ts ≡ []
  none_open from to ts queue is held = none_of from to ts (subst (λ (l : List HeldView). AreHeld node run from to ts l) is held)

  pub none_shown : (from to : ℕ) (ts : List (ℕ × Answered)) (queue : List HeldView) → queue ≡ [] → AreHeld node run from to ts queue → shown_with ts queue ≡ []
  unfolding shown_with
  none_shown from to ts queue is held = λ i. shown_with (none_open from to ts queue is held i) queue

  -- rests on no fewer than fewer
  pub held_from : (from less to : ℕ) (ts : List (ℕ × Answered)) (hs : List HeldView) → less ≤ from → AreHeld node run from to ts hs → AreHeld node run less to ts hs
  unfolding AreHeld
  held_from from less to [] [] le held = omega (arith, le, held)
  held_from from less to [] (h ∷ hs) le held = absurd held
  held_from from less to (t ∷ ts) [] le held = absurd held
  held_from from less to (t ∷ ts) (h ∷ hs) le held = record { is = held.is; no_fewer = omega (arith, le, held.no_fewer); others = held.others }

  -- there are as many
  pub as_many : (from to : ℕ) (ts : List (ℕ × Answered)) (hs : List HeldView) → AreHeld node run from to ts hs → length ts ≡ length (shown_with ts hs)
  unfolding AreHeld shown_with
  as_many from to [] [] held = refl
  as_many from to [] (h ∷ hs) held = absurd held
  as_many from to (t ∷ ts) [] held = absurd held
  as_many from to (t ∷ ts) (h ∷ hs) held = ap (λ k. suc k) (as_many t.1.answer.number to ts hs held.others)

  -- the numbers that the ring gave
  pub serials_shown : (from to : ℕ) (ts : List (ℕ × Answered)) (hs : List HeldView) → AreHeld node run from to ts hs
      → filter_map (λ (h : HeldView). h.serial) hs ≡ filter_map serial_of (shown_with ts hs)
  unfolding AreHeld shown_with
  serials_shown from to [] [] held = refl
  serials_shown from to [] (h ∷ hs) held = absurd held
  serials_shown from to (t ∷ ts) [] held = absurd held
  serials_shown from to (t ∷ ts) (h ∷ hs) held = ap (cons_option h.serial) (serials_shown t.1.answer.number to ts hs held.others)

  -- ---- which are due

  all_sealed : (durable from to : ℕ) (ts : List (ℕ × Answered)) (hs : List HeldView) → durable < from → AreHeld node run from to ts hs → filter (is_due durable) (shown_with ts hs) ≡ []
  unfolding AreHeld shown_with
  all_sealed durable from to [] [] lt held = refl
  all_sealed durable from to [] (h ∷ hs) lt held = absurd held
  all_sealed durable from to (t ∷ ts) [] lt held = absurd held
  all_sealed durable from to (t ∷ ts) (h ∷ hs) lt held =
      let o : Open = record { serial = h.serial; kept = t.1 } in
      let more = held.no_fewer in
      let not_due : is_due durable o ≡ false = grind (arith, nat_tests) in
      ap (λ b. cond b (o ∷ filter (is_due durable) (shown_with ts hs)) (filter (is_due durable) (shown_with ts hs))) not_due
      ∙ all_sealed durable t.1.answer.number to ts hs (omega (arith, lt, more)) held.others

  -- where the first is not due, none is
  pub none_due : (durable from to : ℕ) (ts : List (ℕ × Answered)) (hs : List HeldView) → MatchFirst (λ h. durable < h.ticket.number) hs → AreHeld node run from to ts hs
      → filter (is_due durable) (shown_with ts hs) ≡ []
  unfolding AreHeld shown_with
  none_due durable from to [] hs lt held = refl
  none_due durable from to (t ∷ ts) [] lt held = absurd held
  none_due durable from to (t ∷ ts) (h ∷ hs) lt held =
      let number = ap (λ (k : TicketView). k.number) held.is in
      all_sealed durable t.1.answer.number to (t ∷ ts) (h ∷ hs) (omega (arith, lt, number)) (record { is = held.is; no_fewer = omega arith; others = held.others })

-- the first ticket of a list ends
pub ended_first : (own : ℕ) (kept : Answered) (others : List (ℕ × Answered)) → remove_entry (nat_eq own) ((own, kept) ∷ others) ≡ others
ended_first own kept others = rw (eq-eqb own own refl) refl

-- and is found until then
pub found_first : (own : ℕ) (kept : Answered) (others : List (ℕ × Answered)) → lookup (nat_eq own) ((own, kept) ∷ others) ≡ Some kept
found_first own kept others = rw (eq-eqb own own refl) refl
