-- Of what a node is asked, what is a message.
use Rattle.std.specs.Prelude.{ℕ, Bool, true, false, if◌then◌else◌, Option, None, Some, List}
use Rattle.std.specs.List.{sum_by}
use Rattle.ring_records.specs.declared.request.Request.{Request}
use Rattle.ring_records.specs.declared.request.Request.TheVariants.{Stand, Take, Acked, Retire, Who, Latest}
use Rattle.group_commit.specs.declared.ticket.Ticket.{Ticket}
use Rattle.group_commit.specs.Ticket.{shown}

-- it is to take a message
abbrev pub is_take : Request → Bool
is_take (Stand key bid) = false
is_take (Take number msg) = true
is_take (Acked upto) = false
is_take (Retire group floor) = false
is_take (Who key) = false
is_take (Latest group) = false

-- how many messages it is asked to take: one or none
abbrev pub count : Option Request → ℕ
count None = 0
count (Some asked) = if is_take asked then 1 else 0

-- how many of the tickets are of messages
abbrev pub count_ticket : Ticket → ℕ
count_ticket ticket = count (Some (shown ticket).question)

abbrev pub count_open : List Ticket → ℕ
count_open tickets = sum_by count_ticket tickets
