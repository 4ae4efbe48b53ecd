-- What a request makes of a desk and of what is counted.
use Rattle.std.proofs.Common.{◌≡◌, ◌⊎◌, inl, inr, ℕ, ◌+◌, ◌-◌, ◌≤◌, Bool, true, false, List, ◌++◌, [], length, take, drop, Option, Some, None, if◌then◌else◌, refl, sym, ap, ◌∙◌, arith, length-append}
use Rattle.std.proofs.lemmas.List.{drop-append-le, length-drop, take-append-le}
use Rattle.std.proofs.lemmas.Option.{same_Some}
use Rattle.std.specs.List.{cons_option}
use Rattle.std.specs.Option.{option_map}
use Rattle.std.specs.Prelude.{nat_le, ◌||◌, ◌^◌}
use Rattle.ring_records.specs.declared.base.Base.{Base}
use Rattle.ring_records.specs.declared.input.Input.{Input}
use Rattle.ring_records.specs.declared.refusal.Refusal.{Refusal}
use Rattle.ring_records.specs.declared.refusal.Refusal.TheVariants as refused
use Rattle.ring_records.specs.declared.request.Request.{Request}
use Rattle.ring_records.specs.States.{NodeState, durable_in}
use Rattle.ring_records.specs.Lawful.{IsNodeState}
use Rattle.ring_records.specs.Outside.{is_outside}
use Rattle.ring_records.proofs.Lists.{none≢some}
use Rattle.group_commit.specs.Desk.{DeskView, DeskKept, IsSealed, IsSubmitted, objection}
use Rattle.group_commit.specs.Ticket.{TicketView}
use Rattle.gated_journal.specs.Batch.{numbered_with}
use Rattle.commit_hub.specs.Desks.{flying_part}
use Rattle.commit_hub.specs.Told.{IsUnasked}

-- the durable inputs stay where more come behind
pub durable_stays : (s : NodeState) (more : List Input) → IsNodeState s → take s.durable (s.inputs ++ more) ≡ durable_in s
durable_stays s more counts = take-append-le s.durable s.inputs more (omega (arith, counts.durable, counts.flying))

-- so do those that fly
pub flying_stays : (d : DeskKept) (more : List Input) → IsNodeState d.view.state
    → flying_part (record d { view = record d.view { state = record d.view.state { inputs = d.view.state.inputs ++ more } } }) ≡ flying_part d
flying_stays d more counts =
    let s = d.view.state in
    let behind : drop s.durable (s.inputs ++ more) ≡ drop s.durable s.inputs ++ more = drop-append-le s.durable s.inputs more (omega (arith, counts.durable, counts.flying)) in
    let fly = take-append-le (s.flying - s.durable) (drop s.durable s.inputs) more (omega (arith, counts.durable, counts.flying, length-drop s.durable s.inputs)) in
    ap (λ (l : List Input). numbered_with d.view.member.node (d.opening.inputs + s.durable) l (option_map (λ (b : Base). b.bytes) s.checkpoint)) (ap (take (s.flying - s.durable)) behind ∙ fly)

-- a desk to which nothing is against a request takes requests
pub takes_requests : (v : DeskView) (q : Request) → objection v q ≡ None → (v.closed || v.failed) ≡ false
takes_requests v q e = go (v.closed || v.failed) e
  where
    go : (over : Bool) → (if over then Some refused.Failed else (if is_outside v.member.n q then Some refused.BadNumber else (if nat_le (2 ^ 60) v.issued then Some refused.Limit else None))) ≡ None → over ≡ false
    go true e = none≢some refused.Failed (sym e)
    go false e = refl

-- the inputs of a desk that gave a ticket
more_inputs : (q : Request) (old new : DeskKept) (ticket : TicketView) (s : IsSubmitted q old new ticket) → new.view.state.inputs ≡ old.view.state.inputs ++ cons_option s.more []
more_inputs q old new ticket s = ap (λ (d : DeskKept). d.view.state.inputs) s.next

-- no input is lost
pub grows : (q : Request) (old new : DeskKept) (ticket : TicketView) → IsSubmitted q old new ticket → length old.view.state.inputs ≤ length new.view.state.inputs
grows q old new ticket s = omega (arith, ap length (more_inputs q old new ticket s), length-append old.view.state.inputs (cons_option s.more []))

-- ---- a request brings one input at most

few : (o : Option Input) → length (cons_option o []) ≤ 1
few None = omega arith
few (Some x) = omega arith

-- what is counted with it grows by as much
pub one_more : (q : Request) (old new : DeskKept) (ticket : TicketView) (before after : ℕ) → IsSubmitted q old new ticket
    → after + length old.view.state.inputs ≡ before + length new.view.state.inputs → (before ≤ after) × (after ≤ before + 1)
one_more q old new ticket before after s counted =
    let long : length new.view.state.inputs ≡ length old.view.state.inputs + length (cons_option s.more []) =
    ap length (more_inputs q old new ticket s) ∙ length-append old.view.state.inputs (cons_option s.more []) in
    (omega (arith, counted, long), omega (arith, counted, long, few s.more))

-- ---- a request that gets a ticket

-- the ticket is for it
pub asks : (q : Request) (old new : DeskKept) (ticket : TicketView) → IsSubmitted q old new ticket → ticket.question ≡ q
asks q old new ticket s = ap (λ (t : TicketView). t.question) s.ticket_is ∙ s.question

-- ---- a request that gets no ticket

by_cause : (n : ℕ) (q : Request) (why : Refusal) (over outside many : Bool) → is_outside n q ≡ outside
    → ((if over then Some refused.Failed else (if outside then Some refused.BadNumber else (if many then Some refused.Limit else None))) ≡ Some why)
    ⊎ (((if over then Some refused.Failed else (if outside then Some refused.BadNumber else (if many then Some refused.Limit else None))) ≡ None) × (why ≡ refused.OutOfMemory)) → IsUnasked n q why
by_cause n q why true outside many e (inl found) = inl (sym (same_Some refused.Failed why found))
by_cause n q why true outside many e (inr p) = none≢some refused.Failed (sym p.0)
by_cause n q why false true many e (inl found) = inr (inl (e, sym (same_Some refused.BadNumber why found)))
by_cause n q why false true many e (inr p) = none≢some refused.BadNumber (sym p.0)
by_cause n q why false false true e (inl found) = inr (inr (e, inl (sym (same_Some refused.Limit why found))))
by_cause n q why false false true e (inr p) = none≢some refused.Limit (sym p.0)
by_cause n q why false false false e (inl found) = none≢some why found
by_cause n q why false false false e (inr p) = inr (inr (e, inr p.1))

pub unasked : (desk : DeskView) (q : Request) (why : Refusal) → (objection desk q ≡ Some why) ⊎ ((objection desk q ≡ None) × (why ≡ refused.OutOfMemory)) → IsUnasked desk.member.n q why
unasked desk q why against = by_cause desk.member.n q why (desk.closed || desk.failed) (is_outside desk.member.n q) (nat_le (2 ^ 60) desk.issued) refl against

-- ---- a ticket whose reply is not released

-- where it is told that the desk has failed, the ticket is open here
pub failed_own : (desk : DeskKept) (ticket : TicketView) (why : Refusal) → IsSealed desk ticket why → why ≡ refused.Failed → ticket.node ≡ desk.view.member.node
failed_own desk ticket why sealed failed = elim sealed.cause [ inl gone ↦ absurd (let foreign = gone.0 in cc) | inr early ↦ early.1.node ]
