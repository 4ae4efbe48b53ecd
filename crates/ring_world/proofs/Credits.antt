-- No more messages of a node are credited than its durable inputs sent.
use Rattle.std.proofs.Common.{ℕ, suc, ◌≡◌, ◌⊎◌, ◌≤◌, List, [], ◌∷◌, ◌++◌, length, take, drop, slice_get, Option, Some, None, refl, sym, ap, ◌∙◌, subst, inl, inr, arith, append-nil}
use Rattle.std.specs.List.{cons_option, filter_map, fold, Contains}
use Rattle.std.proofs.lemmas.Bool.Decides.{nat_tests}
use Rattle.std.proofs.lemmas.List.{take-append-drop}
use Rattle.std.proofs.lemmas.List.Elements.{Contains-push, Contains-append_left}
use Rattle.std.proofs.lemmas.Option.{same_Some}
use Rattle.ring_records.specs.declared.base.Base.{Base}
use Rattle.ring_records.specs.declared.input.Input.{Input}
use Rattle.ring_records.specs.declared.input.Input.TheVariants.{Stand, Take, Acked, Retire}
use Rattle.ring_records.specs.declared.msg.Msg.{Msg}
use Rattle.ring_records.specs.Allowed.{IsInTurn}
use Rattle.ring_records.specs.Lawful.{IsAdmitted, IsLawful}
use Rattle.ring_records.specs.Emission.{sent}
use Rattle.ring_records.specs.Fitting.{LinkFits}
use Rattle.ring_records.specs.History.{upto_of, message_of, taken, credit}
use Rattle.ring_records.specs.Place.{after, before}
use Rattle.ring_records.specs.Ring.{IsCarried}
use Rattle.ring_records.specs.Part.{part}
use Rattle.ring_records.specs.States.{NodeState, launched_base, durable_in}
use Rattle.ring_records.proofs.Growth.{slice_get-push}
use Rattle.ring_records.proofs.History.{taken-push}
use Rattle.ring_records.proofs.Leader.{Contains-here, Contains-later, Contains-filter_map_from}
use Rattle.ring_records.proofs.Lists.{along, none≢some}
use Rattle.ring_records.proofs.States.{lawful-first}
use Rattle.ring_world.specs.Capacity.{committed, state_after}
use Rattle.ring_world.specs.Events.{Action}
use Rattle.ring_world.specs.CapacitySchedule.{IsSchedule}
use Rattle.ring_world.proofs.Served.{schedule_holds}

-- ---- the last credit and the last message

last_of : (first : ℕ) (ns : List ℕ) → (fold (λ before n. n) first ns ≡ first) ⊎ Contains ns (fold (λ before n. n) first ns)
last_of first [] = inl refl
last_of first (n ∷ ns) = elim (last_of n ns) [
  | inl e ↦ inr (subst (Contains (n ∷ ns)) (sym e) (Contains-here n ns))
  | inr there ↦ inr (Contains-later n ns (fold (λ before k. k) n ns) there)
]

acked : (h : List Input) (x : Input) (upto : ℕ) → Contains h x → upto_of x ≡ Some upto → Contains h (Acked upto)
unfolding upto_of
acked h (Stand key bid) upto there e = none≢some upto e
acked h (Take msg_no msg) upto there e = none≢some upto e
acked h (Acked k) upto there e = subst (λ u. Contains h (Acked u)) (same_Some k upto e) there
acked h (Retire group floor) upto there e = none≢some upto e

-- the credit is 0, or was accepted
credit_from : (h : List Input) → (credit h ≡ 0) ⊎ Contains h (Acked (credit h))
unfolding credit
credit_from h = elim (last_of 0 (filter_map upto_of h)) [
  | inl e ↦ inl e
  | inr there ↦ inr (let from = Contains-filter_map_from upto_of h (credit h) there in acked h from.0 (credit h) from.1 from.2)
]

-- each message that was taken stands in a Take, whose number is its place
abbrev AreNumbered : List Input → Type 0
AreNumbered h = (place : ℕ) (msg : Msg) → slice_get (taken h) place ≡ Some msg → Contains h (Take place msg)

-- no message is taken with the input
stays : (h : List Input) (x : Input) → message_of x ≡ None → AreNumbered h → AreNumbered (h ++ x ∷ [])
stays h x none earlier place msg e =
    let same : taken (h ++ x ∷ []) ≡ taken h = taken-push h x ∙ (ap (λ (o : Option Msg). taken h ++ cons_option o []) none ∙ append-nil (taken h)) in
    Contains-append_left h (x ∷ []) (Take place msg) (earlier place msg (ap (λ (l : List Msg). slice_get l place) (sym same) ∙ e))

next : (me n capacity : ℕ) (base : Base) (h : List Input) (x : Input) → IsAdmitted me n capacity base h x → AreNumbered h → AreNumbered (h ++ x ∷ [])
unfolding IsInTurn message_of
next me n capacity base h (Stand key bid) admitted earlier = stays h (Stand key bid) refl earlier
next me n capacity base h (Acked upto) admitted earlier = stays h (Acked upto) refl earlier
next me n capacity base h (Retire group floor) admitted earlier = stays h (Retire group floor) refl earlier
next me n capacity base h (Take msg_no taking) admitted earlier = λ place msg e.
    let more : taken (h ++ Take msg_no taking ∷ []) ≡ taken h ++ taking ∷ [] = taken-push h (Take msg_no taking) in
    let at : msg_no ≡ length (taken h) = admitted.allowed.in_turn.next in
    elim (slice_get-push (taken h) taking msg place (ap (λ (l : List Msg). slice_get l place) (sym more) ∙ e)) [
      | inl there ↦ Contains-append_left h (Take msg_no taking ∷ []) (Take place msg) (earlier place msg there)
      | inr last ↦ subst (λ (x : Input). Contains (h ++ Take msg_no taking ∷ []) x) (λ i. Take ((at ∙ sym last.0) i) (last.1 i)) (Contains-push h (Take msg_no taking))
    ]

numbered_none : AreNumbered []
unfolding taken
numbered_none place msg e = none≢some msg e

are_numbered : (me n capacity : ℕ) (base : Base) (h : List Input) → IsLawful me n capacity base h → AreNumbered h
unfolding IsLawful
are_numbered me n capacity base h lawful = along (IsAdmitted me n capacity base) AreNumbered (next me n capacity base) [] h lawful numbered_none

-- ---- in a ring

before_after : (n i : ℕ) → 1 ≤ i → i ≤ n → before n (after n i) ≡ i
unfolding after before
before_after n i low high = grind (arith, nat_tests)

-- a list whose items stand at their places in another one is no longer than that
all_within : {A : Type 0} (xs ys : List A) → ((k : ℕ) (x : A) → slice_get xs k ≡ Some x → slice_get ys k ≡ Some x) → length xs ≤ length ys
all_within [] ys there = omega arith
all_within (x ∷ xs) [] there = none≢some x (there 0 x refl)
all_within (x ∷ xs) (y ∷ ys) there = let rest = all_within xs ys (λ k z e. there (suc k) z e) in omega arith

front : {A : Type 0} (k : ℕ) (l : List A) (x : A) → Contains (take k l) x → Contains l x
front k l x there = subst (λ ys. Contains ys x) (take-append-drop k l) (Contains-append_left (take k l) (drop k l) x there)

module _ (start : ℕ → Base) (n capacity : ℕ) (events : List (ℕ × Action)) (schedule : IsSchedule start n capacity events) (i : ℕ) (first : 1 ≤ i) (last : i ≤ n) where
  abbrev run : List (ℕ × Input)
  run = committed start n capacity events

  abbrev at : ℕ → NodeState
  at k = state_after start n capacity events k

  durable_is : (k : ℕ) → part run k ≡ durable_in (at k)
  durable_is = (schedule_holds start n capacity events schedule).parts

  -- what was carried was sent
  carried_one : (place : ℕ) (msg : Msg) → IsCarried n run (after n i) (Take place msg) → slice_get (sent i (part run i)) place ≡ Some msg
  unfolding IsCarried
  carried_one place msg e = subst (λ k. slice_get (sent k (part run k)) place ≡ Some msg) (before_after n i first last) e

  -- node i sent each message that its successor took
  taken_sent : (place : ℕ) (msg : Msg) → slice_get (taken (part run (after n i))) place ≡ Some msg → slice_get (sent i (part run i)) place ≡ Some msg
  taken_sent place msg e =
      let b = after n i in
      let holds = schedule_holds start n capacity events schedule in
      let base = launched_base (at b) in
      let lawful = lawful-first b n capacity base (at b).durable (at b).inputs (holds.sound b).lawful.all in
      let there = are_numbered b n capacity base (durable_in (at b)) lawful place msg (ap (λ (h : List Input). slice_get (taken h) place) (sym (durable_is b)) ∙ e) in
      carried_one place msg (holds.carried b (Take place msg) (front (at b).durable (at b).inputs (Take place msg) there))

  -- and so as many
  taken_few : length (taken (part run (after n i))) ≤ length (sent i (part run i))
  taken_few = all_within (taken (part run (after n i))) (sent i (part run i)) taken_sent

  carried_credit : (upto : ℕ) → IsCarried n run i (Acked upto) → upto ≤ length (taken (part run (after n i)))
  unfolding IsCarried
  carried_credit upto e = e

  -- node i is credited no more than its successor took
  credited_taken : (h : List Input) → ((x : Input) → Contains h x → IsCarried n run i x) → credit h ≤ length (taken (part run (after n i)))
  credited_taken h carried = elim (credit_from h) [
    | inl e ↦ omega arith
    | inr there ↦ carried_credit (credit h) (carried (Acked (credit h)) there)
  ]

  -- the link from node i fits
  pub link_fits : LinkFits (λ place. Unit {0}) i (durable_in (at i)) (durable_in (at (after n i)))
  link_fits =
      let holds = schedule_holds start n capacity events schedule in
      let own = durable_is i in
      let next = durable_is (after n i) in
      let few = credited_taken (durable_in (at i)) (λ x there. holds.carried i x (front (at i).durable (at i).inputs x there)) in
      record {
        counts = record {
          credited = subst (λ (h : List Input). credit (durable_in (at i)) ≤ length (taken h)) next few;
          sent = subst (λ (h : List Input). length (taken h) ≤ length (sent i (durable_in (at i)))) next (subst (λ (h : List Input). length (taken (part run (after n i))) ≤ length (sent i h)) own taken_few);
        };
        same = λ place msg known took.
            subst (λ (h : List Input). slice_get (sent i h) place ≡ Some msg) own (taken_sent place msg (ap (λ (h : List Input). slice_get (taken h) place) next ∙ took));
      }

  -- no more messages of node i are credited to it than its durable inputs sent
  pub credited : credit (at i).inputs ≤ length (sent i (durable_in (at i)))
  credited =
      let holds = schedule_holds start n capacity events schedule in
      let all = taken_few in
      let same = ap (λ l. length (sent i l)) (durable_is i) in
      elim (credit_from (at i).inputs) [
        | inl e ↦ omega arith
        | inr there ↦ let low = carried_credit (credit (at i).inputs) (holds.carried i (Acked (credit (at i).inputs)) there) in
            omega arith
      ]
