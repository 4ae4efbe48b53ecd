-- What further calls make of a desk, and what of it flies.
use Rattle.std.specs.Prelude.{◌≡◌, ◌+◌, if◌then◌else◌, List, [], ◌∷◌, ◌++◌, Option, is_none, ℕ}
use Rattle.std.specs.Option.{option_map}
use Rattle.ring_records.specs.declared.input.Input.{Input}
use Rattle.ring_records.specs.declared.request.Request.{Request}
use Rattle.ring_records.specs.Launching as launching
use Rattle.ring_records.specs.States.{flying_in}
use Rattle.gated_journal.specs.Batch.{Numbered, numbered_with}
use Rattle.group_commit.specs.Ticket.{TicketView, ticket_with}
use Rattle.group_commit.specs.Desk.{DeskView, DeskKept, answered}
use Rattle.ring_records.specs.declared.reply.Reply.{Reply}
use Rattle.ring_records.specs.Answer.{Answered}

-- the ticket that it gives for a request
abbrev pub ticket_for : Request → DeskView → TicketView
ticket_for q desk = ticket_with desk.member.node desk.run desk.issued (answered desk q)

-- it gave a ticket for the request
abbrev pub submitted : Request → DeskView → DeskView
submitted q desk = record desk {
  state = launching.asked desk.member desk.state q;
  tickets = desk.tickets ++ (desk.issued, answered desk q) ∷ [];
  issued = desk.issued + 1;
}

-- it let go of the inputs that the area in use stands for, unless a checkpoint flies
abbrev pub let_go : DeskKept → DeskKept
let_go desk = record desk { gone = if is_none desk.view.state.checkpoint then desk.view.state.base.inputs else desk.gone }

-- no more became of it than that other inputs are durable or fly, or that it failed
abbrev pub HasFlown : DeskKept → DeskKept → Type 0
HasFlown old new = new ≡ record old { view = record old.view { state = new.view.state; failed = new.view.failed } }

-- these inputs, numbered in the whole history behind what is durable, as a batch, or as a checkpoint with a snapshot of this length
abbrev pub flown_with : DeskKept → List Input → Option ℕ → Numbered
flown_with desk inputs snapshot = numbered_with desk.view.member.node (desk.opening.inputs + desk.view.state.durable) inputs snapshot

-- these are the node's inputs that fly, numbered in the whole history, as a batch, or as a checkpoint with a snapshot of
-- this length
pub record IsFlying (desk : DeskKept) (batch : Numbered) : Type 0 where
  pub node : batch.node ≡ desk.view.member.node
  pub first : batch.first ≡ desk.opening.inputs + desk.view.state.durable
  pub inputs : batch.inputs ≡ flying_in desk.view.state
  pub snapshot : batch.snapshot ≡ option_map (λ b. b.bytes) desk.view.state.checkpoint

abbrev pub answered_with : Request → Reply → ℕ → Answered
answered_with q reply number = record { question = q; answer = record { reply = reply; number = number } }
