-- The tickets of a node.
use Rattle.std.specs.Prelude.{◌≡◌, ◌≤◌}
use Rattle.disk_model.specs.declared.device.Device.{Ghosts}
use Rattle.ring_records.specs.Answer.{Answered}
use Rattle.group_commit.specs.Desk.{DeskView, IsHere}
use Rattle.group_commit.specs.Ticket.{TicketView}
use Rattle.node_store.specs.Node.{desk_of}
use Rattle.node_store.specs.declared.node.Node.{Node}

-- the same opening of a node later on
pub record IsLater (old new : DeskView) : Type 0 where
  pub member : new.member ≡ old.member
  pub run : new.run ≡ old.run
  pub issued : old.issued ≤ new.issued

module _ {D : Type 0} {g : Ghosts D} where
  -- the node keeps a reply for the ticket
  abbrev pub IsOpen : Node D g → TicketView → Type 0
  IsOpen node ticket = (kept : Answered) × IsHere (desk_of node).view ticket kept
