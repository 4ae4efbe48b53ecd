-- What the placed inputs of one node leave, and what that says of the next.
use Rattle.std.proofs.Common.{ℕ, ◌≡◌, Bool, true, false, not, List, [], ◌∷◌, ◌++◌, length, Option, Some, None, refl, sym, ap, ◌∙◌, subst}
use Rattle.std.specs.List.{cons_option}
use Rattle.std.specs.Option.{option_map}
use Rattle.std.specs.Prelude.{is_some, IsTrue, ◌↔◌}
use Rattle.ring_records.specs.declared.summary.Summary.{Summary}
use Rattle.ring_records.specs.Known.{Objects}
use Rattle.ring_records.specs.Summary.{summary}
use Rattle.ring_records.proofs.Known.{sends-known, objects-known, objects-of}
use Rattle.ring_records.specs.Lists.{EachAfter, found_after}
use Rattle.node_core.specs.Brought.{brought}
use Rattle.node_core.proofs.Histories.{brought-carry}
use Rattle.std.proofs.lemmas.Option.{none-some}
use Rattle.ring_records.specs.declared.input.Input.{Input}
use Rattle.ring_records.specs.declared.msg.Msg.{Msg}
use Rattle.ring_records.specs.declared.packet.Packet.{Packet}
use Rattle.ring_records.specs.declared.packet.Packet.TheVariants.{Carry}
use Rattle.ring_records.specs.declared.refusal.Refusal.{Refusal}
use Rattle.ring_records.specs.Allowed.{IsAllowed}
use Rattle.ring_records.specs.Objection.{objection}
use Rattle.ring_records.specs.Emission.{emit, sent}
use Rattle.ring_records.specs.Release.{carry}
use Rattle.ring_records.proofs.Admission.{objection-allowed, allowed-free}
use Rattle.ring_records.proofs.History.{sent-push}
use Rattle.ring_audit.specs.declared.part.Part.{Part}
use Rattle.ring_audit.specs.Part.{message_in, carried_by, PartStandsFor}

pub sent_none : (i : ℕ) → ◌≡◌ {A = List Msg} [] (sent i [])
unfolding sent found_after
sent_none i = refl

carried_is : (place : ℕ) (o : Option Msg) → carried_by (option_map (Carry place) o) ≡ o
unfolding message_in
carried_is place None = refl
carried_is place (Some msg) = refl

pub sent_next : (i : ℕ) (h : List Input) (x : Input) (o : Option Packet) (messages : List Msg) → messages ≡ sent i h → o ≡ carry i h x
    → messages ++ cons_option (carried_by o) [] ≡ sent i (h ++ x ∷ [])
unfolding carry
sent_next i h x o messages e f =
    (λ t. e t ++ cons_option (carried_by (f t)) [])
    ∙ (ap (λ m. sent i h ++ cons_option m []) (carried_is (length (sent i h)) (emit i h x)) ∙ sym (sent-push i h x))

pub allowed_none : (i n : ℕ) → EachAfter (IsAllowed i n) [] []
unfolding EachAfter
allowed_none i n = tt

-- what is said against the input by what is kept is said by the history
pub judged : (n i : ℕ) (part : Part) (h : List Input) (x : Input) (o : Option Refusal) → PartStandsFor n i part h → Objects part.core.size part.core.known x o → o ≡ objection i n h x
judged n i part h x o s is = objects-known i n h x o (subst (λ (k : Summary). Objects n k x o) s.knows (subst (λ (m : ℕ). Objects m part.core.known x o) s.ring is))

pub allowed_here : (n i : ℕ) (part : Part) (h : List Input) (x : Input) → PartStandsFor n i part h → Objects part.core.size part.core.known x None → IsAllowed i n h x
allowed_here n i part h x s is = objection-allowed i n h x (sym (judged n i part h x None s is))

none_is : (o : Option Refusal) (b : Bool) → is_some o ≡ not b → (b ≡ true → o ≡ None) × (o ≡ None → b ≡ true)
none_is None true e = (λ _. refl, λ _. refl)
none_is None false e = absurd cc
none_is (Some r) true e = absurd cc
none_is (Some r) false e = (λ f. absurd cc, λ f. absurd (none-some r (sym f)))

pub allows_is : (n i : ℕ) (part : Part) (h : List Input) (x : Input) (o : Option Refusal) (b : Bool) → PartStandsFor n i part h → Objects part.core.size part.core.known x o
    → is_some o ≡ not b → IsTrue b ↔ IsAllowed i n h x
allows_is n i part h x o b s e f =
    let is = none_is o b f in
    let o_is = judged n i part h x o s e in
    (λ t. objection-allowed i n h x (sym o_is ∙ is.0 t), λ a. is.1 (o_is ∙ allowed-free i n h x a))

pub may_apply : (part : Part) (x : Input) → ((n : ℕ) × (i : ℕ) × (h : List Input) × PartStandsFor n i part h × IsAllowed i n h x) → Objects part.core.size part.core.known x None
may_apply part x a =
    let free : objection a.1 a.0 a.2 x ≡ None = allowed-free a.1 a.0 a.2 x a.4 in
    let here : Objects a.0 (summary a.1 a.2) x None = subst (Objects a.0 (summary a.1 a.2) x) free (objects-of a.1 a.0 a.2 x) in
    subst (λ (m : ℕ). Objects m part.core.known x None) (sym a.3.ring) (subst (λ (k : Summary). Objects a.0 k x None) (sym a.3.knows) here)

pub carried_here : (n i : ℕ) (part : Part) (h : List Input) (x : Input) → PartStandsFor n i part h → (brought part.core.me part.core.known x).carry ≡ carry i h x
unfolding carry
carried_here n i part h x s =
    (λ t. (brought (s.me t) (s.knows t) x).carry)
    ∙ (brought-carry i (summary i h) x ∙ ap (option_map (Carry (length (sent i h)))) (sends-known i h x))
