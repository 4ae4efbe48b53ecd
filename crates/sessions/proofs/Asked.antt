-- A node that is asked, and flushed.
use Rattle.std.proofs.Common.{ℕ, ◌≡◌, ◌+◌, ◌≤◌, ◌^◌, Bool, true, false, ◌||◌, nat_le, if◌then◌else◌, [], ◌++◌, length, Option, Some, None, inl, inr, refl, sym, ap, ◌∙◌, arith}
use Rattle.std.specs.Prelude.{is_some, ◌&&◌, cond, min, nat_lt}
use Rattle.std.specs.List.{cons_option}
use Rattle.std.proofs.lemmas.Bool.{leb-true}
use Rattle.std.proofs.lemmas.List.{length-append}
use Rattle.std.proofs.lemmas.Option.{same_Some}
use Rattle.ring_records.specs.declared.input.Input.{Input}
use Rattle.ring_records.specs.declared.refusal.Refusal.{Refusal}
use Rattle.ring_records.specs.declared.refusal.Refusal.TheVariants.{BadNumber, Failed, Limit}
use Rattle.group_commit.specs.Desk.{DeskKept, kept_at, landed, launched, IsHere, IsSealed}
use Rattle.group_commit.specs.DeskCalls.{HasFlown}
use Rattle.group_commit.specs.Launching.{launched_all, needs_checkpoint, next_area}
use Rattle.group_commit.specs.Ticket.{TicketView}
use Rattle.ring_records.specs.Answer.{Answered}
use Rattle.ring_records.specs.States.{NodeState, is_idle, opened}
use Rattle.ring_records.proofs.States.{idle-base}
use Rattle.node_store.specs.Flying.{next_flight, settled_base}

one_more : (o : Option Input) → length (cons_option o []) ≤ 1
one_more None = omega arith
one_more (Some x) = omega arith

-- where nothing waited, at most one input waits behind a request
pub one_waits : (s t : NodeState) (o : Option Input) → t ≡ record s { inputs = s.inputs ++ cons_option o [] } → length s.inputs ≡ s.durable → length t.inputs ≤ t.durable + 1
one_waits s t o e durable =
    let one = one_more o in
    let inputs = ap (λ v. length v.inputs) e in
    let same = ap (λ v. v.durable) e in
    omega (arith, one, inputs, same, durable, length-append s.inputs (cons_option o []))

-- a flush leaves nothing waiting where one input waits
pub settles : (desk : DeskKept) → length desk.view.state.inputs ≤ desk.view.state.durable + 1 → is_idle desk.view.state ≡ true → nat_lt desk.view.state.durable (length desk.view.state.inputs) ≡ true
    → landed (next_flight desk) ≡ record desk.view { state = opened (settled_base desk) desk.view.state.inputs }
settles desk one idle waits = go (needs_checkpoint desk) (nat_lt desk.view.state.durable (length desk.view.state.inputs)) waits
  where
    all : min (desk.view.state.durable + 64) (length desk.view.state.inputs) ≡ length desk.view.state.inputs
    all = omega (arith, one)

    go : (needs some : Bool) → some ≡ true
        → landed (cond needs (launched_all desk) (launched desk.view)) ≡ record desk.view { state = opened (cond (some && needs) (next_area desk) desk.view.state.base) desk.view.state.inputs }
    go needs false e = absurd cc
    go true true e = refl
    go false true e = λ i. record desk.view { state = record (opened (idle-base desk.view.state idle i) desk.view.state.inputs) { durable = all i; flying = all i } }

pub inputs_stay : (desk : DeskKept) → (next_flight desk).state.inputs ≡ desk.view.state.inputs
inputs_stay desk = go (needs_checkpoint desk)
  where
    go : (needs : Bool) → (cond needs (launched_all desk) (launched desk.view)).state.inputs ≡ desk.view.state.inputs
    go true = refl
    go false = refl

-- no number of a ticket is left
no_number : (b : Bool) (why : Refusal) → (if b then Some Limit else None) ≡ Some why → (why ≡ Limit) × (b ≡ true)
no_number true why e = (sym (same_Some Limit why e), refl)
no_number false why e = cc

-- why a node that takes requests gives no ticket to a client
pub no_ticket : (closed failed outside : Bool) (issued : ℕ) (why : Refusal) → closed ≡ false → failed ≡ false → outside ≡ false
    → (if closed || failed then Some Failed else (if outside then Some BadNumber else (if nat_le (2 ^ 60) issued then Some Limit else None))) ≡ Some why
    → (why ≡ Limit) × (2 ^ 60 ≤ issued)
no_ticket true failed outside issued why c f o e = cc
no_ticket false true outside issued why c f o e = cc
no_ticket false false true issued why c f o e = cc
no_ticket false false false issued why c f o e = let p = no_number (nat_le (2 ^ 60) issued) why e in (p.0, leb-true (2 ^ 60) issued p.1)

pub none_of : {A : Type 0} (o : Option A) → is_some o ≡ false → o ≡ None
none_of None e = refl
none_of (Some x) e = cc

-- a ticket that is open stays so where the tickets stay
pub still_here : (old new : DeskKept) (ticket : TicketView) (kept : Answered) → HasFlown old new → IsHere old.view ticket kept → IsHere new.view ticket kept
still_here old new ticket kept stays here = record {
  node = here.node ∙ sym (ap (λ (d : DeskKept). d.view.member.node) stays);
  run = here.run ∙ sym (ap (λ (d : DeskKept). d.view.run) stays);
  own = ap (λ (d : DeskKept). kept_at d.view ticket.own) stays ∙ here.own;
  question = here.question;
}

-- an open ticket whose reply rests on durable inputs is not sealed
pub not_sealed : (desk : DeskKept) (ticket : TicketView) (why : Refusal) (kept : Answered) → IsHere desk.view ticket kept → kept.answer.number ≤ desk.opening.inputs + desk.view.state.durable
    → IsSealed desk ticket why → ⊥
not_sealed desk ticket why kept here low sealed = elim sealed.cause [
  | inl foreign ↦ foreign.1 kept here
  | inr early ↦
      (let same : kept ≡ early.0 = same_Some kept early.0 (sym here.own ∙ early.1.own) in
      omega (arith, low, early.2, ap (λ (a : Answered). a.answer.number) same))
]
