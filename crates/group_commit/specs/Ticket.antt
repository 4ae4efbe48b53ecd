-- What a ticket and a stub show.
use Rattle.std.specs.Prelude.{ℕ}
use Rattle.ring_records.specs.declared.request.Request.{Request}
use Rattle.ring_records.specs.Answer.{Answered}
use Rattle.group_commit.specs.declared.ticket.Ticket.{Ticket}

-- the node and the opening of it that the ticket is of, its own number there, its request, and how many inputs the reply
-- rests on
pub record TicketView : Type 0 where
  pub node : ℕ
  pub run : ℕ
  pub own : ℕ
  pub question : Request
  pub number : ℕ

abbrev pub ticket_with : ℕ → ℕ → ℕ → Answered → TicketView
ticket_with node run own answered = record { node = node; run = run; own = own; question = answered.question; number = answered.answer.number }

abbrev pub shown : Ticket → TicketView
shown ticket = record { node = ticket.node; run = ticket.run; own = ticket.own; question = ticket.question; number = ticket.number }
