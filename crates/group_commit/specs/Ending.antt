-- How a ticket ends at a desk: with its reply, or with none.
use Rattle.std.specs.Prelude.{Bool, List, ◌≡◌, ◌+◌, ◌≤◌, ◌||◌, true, Result, IfOk, IfErr, OnOk, OnErr}
use Rattle.ring_records.specs.declared.input.Input.{Input}
use Rattle.ring_records.specs.declared.refusal.Refusal.{Refusal}
use Rattle.ring_records.specs.declared.refusal.Refusal.TheVariants as refused
use Rattle.ring_records.specs.declared.reply.Reply.{Reply}
use Rattle.ring_records.specs.Answer.{Answered}
use Rattle.ring_records.specs.States.{durable_in}
use Rattle.group_commit.specs.declared.ticket.Ticket.{Ticket}
use Rattle.group_commit.specs.Desk.{DeskKept, ended, IsAnswer, IsHere, IsSealed}
use Rattle.group_commit.specs.Past.{IsPast}
use Rattle.group_commit.specs.Ticket.{shown}

-- no such ticket is open at this desk
abbrev pub IsForeign : DeskKept → Ticket → Type 0
IsForeign desk ticket = (kept : Answered) → IsHere desk.view (shown ticket) kept → ⊥

-- it takes no requests: it is closed or has failed
abbrev pub is_over : DeskKept → Bool
is_over desk = desk.view.closed || desk.view.failed

-- The ticket ended and its reply was released, with a stub of it: all that the reply rests on is durable, and it is the answer
-- behind that. Or it came back, for a reason, and all is as it was.
pub record IsRedeemed (old new : DeskKept) (ticket : Ticket) (result : Result (Reply × Answered) (Ticket × Refusal)) : Type 0 where
  pub released : IfOk result (λ r. IsHere old.view (shown ticket) r.1)
  pub reply : IfOk result (λ r. r.0 ≡ r.1.answer.reply)
  pub durable : IfOk result (λ r. r.1.answer.number ≤ old.opening.inputs + old.view.state.durable)
  pub answer : IfOk result (λ r. (past : List Input) → IsPast old.view.member old.opening past → IsAnswer old.view.member past (durable_in old.view.state) r.1)
  pub next : OnOk result (new ≡ record old { view = ended (shown ticket).own old.view })
  pub refusal : IfErr result (λ e. IsSealed old (shown ticket) e.1)
  pub back : IfErr result (λ e. shown e.0 ≡ shown ticket)
  pub same : OnErr result (new ≡ old)

-- The ticket ended with no reply. Or it came back, since no such ticket is open, and all is as it was.
pub record IsForfeited (old new : DeskKept) (ticket : Ticket) (result : Result (Unit {0}) (Ticket × Refusal)) : Type 0 where
  pub here : OnOk result ((kept : Answered) × IsHere old.view (shown ticket) kept)
  pub next : OnOk result (new ≡ record old { view = ended (shown ticket).own old.view })
  pub foreign : IfErr result (λ e. (e.1 ≡ refused.Foreign) × IsForeign old ticket)
  pub back : IfErr result (λ e. shown e.0 ≡ shown ticket)
  pub same : OnErr result (new ≡ old)

-- The ticket ended with no reply, which frees a place where it was open and no more requests are taken. Else the desk is as it was.
pub record IsEnded (old new : DeskKept) (ticket : Ticket) (result : Result (Unit {0}) Refusal) : Type 0 where
  pub over : OnOk result (is_over old ≡ true)
  pub here : OnOk result ((kept : Answered) × IsHere old.view (shown ticket) kept)
  pub next : OnOk result (new ≡ record old { view = ended (shown ticket).own old.view })
  pub foreign : IfErr result (λ e. e ≡ refused.Foreign)
  pub gone : OnErr result (is_over old ≡ true → IsForeign old ticket)
  pub same : OnErr result (new ≡ old)
