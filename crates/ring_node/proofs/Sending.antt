-- The messages that a node's inputs sent.
use Rattle.std.proofs.Common.{arith, ℕ, ◌≡◌, ◌⊎◌, ◌+◌, ◌-◌, ◌≤◌, List, [], ◌∷◌, ◌++◌, length, take, drop, nat_lt, is_some, get_or, Option, Some, None, IfSome, refl, sym, ap, subst, ◌∙◌, inl, inr, length-append, length-take, append-nil}
use Rattle.std.specs.List.{cons_option, Contains}
use Rattle.std.specs.Option.{option_map}
use Rattle.std.proofs.lemmas.Bool.{ltb-true}
use Rattle.std.proofs.Math.Seq.{take-add}
use Rattle.std.proofs.lemmas.List.Elements.{filter_map-append}
use Rattle.ring_records.specs.declared.base.Base.{Base}
use Rattle.ring_records.specs.declared.input.Input.{Input}
use Rattle.ring_records.specs.declared.input.Input.TheVariants.{Stand, Take, Acked, Retire}
use Rattle.ring_records.specs.declared.candidate.Candidate.{Candidate}
use Rattle.ring_records.specs.declared.msg.Msg.{Msg}
use Rattle.ring_records.specs.declared.packet.Packet.{Packet}
use Rattle.ring_records.specs.declared.packet.Packet.TheVariants.{Carry}
use Rattle.ring_records.specs.Allowed.{IsInTurn}
use Rattle.ring_records.specs.Lawful.{IsAdmitted, IsLawful}
use Rattle.ring_records.specs.States.{NodeState, durable_in, flown_in, flying_in}
use Rattle.ring_records.specs.Emission.{emit, sent}
use Rattle.ring_records.specs.Release.{carry, carries, credits, credit_where, packets}
use Rattle.ring_records.specs.History.{message_of, taken}
use Rattle.ring_records.specs.Lists.{found_after}
use Rattle.ring_records.specs.Message.{candidate_of}
use Rattle.ring_records.proofs.Emission.{emit-candidate}
use Rattle.std.proofs.lemmas.List.{take-append-drop}
use Rattle.ring_records.proofs.Iteration.{IsItem, take-item}
use Rattle.ring_records.proofs.Growth.{sent-append, EachAfter-take}
use Rattle.ring_records.proofs.Leader.{Contains-nil}
use Rattle.ring_records.proofs.Lists.{along, none≢some, found_after-push, Contains-option_cases}
use Rattle.ring_node.specs.Messages.{message_in, carried_by, carried_in}
use Rattle.ring_node.specs.Held.{AreInside}

-- ---- packets

-- a message goes in the packet that carries it
carried-emit : (me : ℕ) (h : List Input) (x : Input) → carried_by (carry me h x) ≡ emit me h x
unfolding carry message_in
carried-emit me h x = go (emit me h x)
  where
    go : (o : Option Msg) → carried_by (option_map (Carry (length (sent me h))) o) ≡ o
    go None = refl
    go (Some msg) = refl

-- no input sent nothing
pub sent-none : (me : ℕ) → [] ≡ sent me []
unfolding sent found_after
sent-none me = refl

carried-cons : (o : Option Packet) (packets : List Packet) → carried_in (cons_option o packets) ≡ cons_option (carried_by o) (carried_in packets)
carried-cons None packets = refl
carried-cons (Some packet) packets = refl

carried-carries : (me : ℕ) (h l : List Input) → carried_in (carries me h l) ≡ found_after (emit me) h l
unfolding carries found_after
carried-carries me h [] = refl
carried-carries me h (x ∷ l) =
    carried-cons (carry me h x) (carries me (h ++ x ∷ []) l)
    ∙ (ap (λ (o : Option Msg). cons_option o (carried_in (carries me (h ++ x ∷ []) l))) (carried-emit me h x)
    ∙ ap (cons_option (emit me h x)) (carried-carries me (h ++ x ∷ []) l))

carried-credits : (h l : List Input) → carried_in (credits h l) ≡ []
unfolding credits message_in
carried-credits h l = go (taken l)
  where
    go : (msgs : List Msg) → carried_in (credit_where msgs (length (taken (h ++ l)))) ≡ []
    go [] = refl
    go (msg ∷ msgs) = refl

-- the packets of a batch carry what its inputs send
carried-packets : (me : ℕ) (h l : List Input) → carried_in (packets me h l) ≡ found_after (emit me) h l
unfolding packets
carried-packets me h l =
    filter_map-append message_in (carries me h l) (credits h l)
    ∙ (ap (λ ms. carried_in (carries me h l) ++ ms) (carried-credits h l) ∙ (append-nil _ ∙ carried-carries me h l))

one-few : {B : Type 0} (o : Option B) (xs : List B) (k : ℕ) → length xs ≤ k → length (cons_option o xs) ≤ k + 1
one-few None xs k le = omega arith
one-few (Some y) xs k le = omega arith

found-few : {A B : Type 0} (f : List A → A → Option B) (before xs : List A) → length (found_after f before xs) ≤ length xs
unfolding found_after
found-few f before [] = omega arith
found-few f before (x ∷ xs) =
    let few = one-few (f before x) (found_after f (before ++ x ∷ []) xs) (length xs) (found-few f (before ++ x ∷ []) xs) in
    omega arith

-- one packet more
pub carried-more : (packets : List Packet) (i : ℕ) (packet : Packet) → IsItem packets i packet → carried_in (take (i + 1) packets) ≡ carried_in (take i packets) ++ cons_option (message_in packet) []
carried-more packets i packet here = ap carried_in (take-item packets i packet here) ∙ filter_map-append message_in (take i packets) (packet ∷ [])

pub carried-within : (packets : List Packet) (i : ℕ) → length (carried_in (take i packets)) ≤ length (carried_in packets)
carried-within packets i =
    let parts = ap (λ ps. length (carried_in ps)) (sym (take-append-drop i packets)) in
    let split = ap length (filter_map-append message_in (take i packets) (drop i packets)) in
    let sum = length-append (carried_in (take i packets)) (carried_in (drop i packets)) in
    omega arith

module _ (me : ℕ) (s : NodeState) (low : s.durable ≤ s.flying) where
  -- what flies lets go follows what was sent before
  pub sent-flying : sent me (durable_in s) ++ carried_in (packets me (durable_in s) (flying_in s)) ≡ sent me (flown_in s)
  sent-flying =
      let sum : s.durable + (s.flying - s.durable) ≡ s.flying = omega (arith, low) in
      let joined : durable_in s ++ flying_in s ≡ flown_in s = sym (take-add s.durable (s.flying - s.durable) s.inputs) ∙ ap (λ k. take k s.inputs) sum in
      ap (λ ms. sent me (durable_in s) ++ ms) (carried-packets me (durable_in s) (flying_in s))
      ∙ (sym (sent-append me (durable_in s) (flying_in s)) ∙ ap (sent me) joined)

  -- and is of no more messages than inputs
  pub flying-few : length (carried_in (packets me (durable_in s) (flying_in s))) ≤ s.flying - s.durable
  flying-few =
      let same = ap length (carried-packets me (durable_in s) (flying_in s)) in
      let few = found-few (emit me) (durable_in s) (flying_in s) in
      let long = length-take (s.flying - s.durable) (drop s.durable s.inputs) in
      omega arith

-- ---- candidates

named : (me n : ℕ) (h : List Input) (x : Input) (msg : Msg) → me ≤ n → IsInTurn me n h x
    → ((candidate_of msg).node ≡ me) ⊎ ((t : Msg) × (message_of x ≡ Some t) × (candidate_of t ≡ candidate_of msg)) → (candidate_of msg).node ≤ n
unfolding IsInTurn message_of
named me n h x msg le turn (inl own) = omega (arith, own, le)
named me n h (Stand key bid) msg le turn (inr other) = none≢some other.0 other.1
named me n h (Take msg_no t) msg le turn (inr other) =
    let same : t ≡ other.0 = (let e = other.1 in cc) in
    let is = ap (λ (c : Candidate). c.node) (ap candidate_of same ∙ other.2) in
    let r = turn.in_ring in
    omega arith
named me n h (Acked upto) msg le turn (inr other) = none≢some other.0 other.1
named me n h (Retire group floor) msg le turn (inr other) = none≢some other.0 other.1

inside-next : (me n capacity : ℕ) (b : Base) → me ≤ n → (h : List Input) (x : Input) → IsAdmitted me n capacity b h x → AreInside n (sent me h) → AreInside n (sent me (h ++ x ∷ []))
unfolding sent
inside-next me n capacity b le h x admitted inside msg there =
    elim (Contains-option_cases (found_after (emit me) [] h) (emit me h x) msg (subst (λ ms. Contains ms msg) (found_after-push (emit me) [] h x) there)) [
      | inl old ↦ inside msg old
      | inr new ↦ named me n h x msg le admitted.allowed.in_turn (emit-candidate me h x msg new)
    ]

inside_none : (me n : ℕ) → AreInside n (sent me [])
unfolding sent found_after
inside_none me n msg there = Contains-nil msg there

-- each message that a lawful history sent names a node of the ring
pub inside : (me n capacity : ℕ) (b : Base) → me ≤ n → (h : List Input) → IsLawful me n capacity b h → AreInside n (sent me h)
unfolding IsLawful
inside me n capacity b le h lawful = along (IsAdmitted me n capacity b) (λ l. AreInside n (sent me l)) (inside-next me n capacity b le) [] h lawful (inside_none me n)

pub inside-front : (me n capacity : ℕ) (k : ℕ) (b : Base) → me ≤ n → (h : List Input) → IsLawful me n capacity b h → AreInside n (sent me (take k h))
unfolding IsLawful
inside-front me n capacity k b le h lawful = inside me n capacity b le (take k h) (EachAfter-take (IsAdmitted me n capacity b) k h lawful)

-- so is the candidate of the message that is found at this place, if there is one
pub inside-at : {R : Type 0} (now : R → Msg) (n : ℕ) (messages : List Msg) (at : ℕ) (found : Option R) → is_some found ≡ nat_lt at (length messages)
    → IfSome found (λ x. now x ≡ get_or messages at (now x)) → AreInside n messages
    → IfSome (option_map now found) (λ msg. (candidate_of msg).node ≤ n)
inside-at now n messages at None within is all = tt
inside-at now n messages at (Some x) within is all = all (now x) (at, ltb-true at (length messages) (sym within), sym is)
