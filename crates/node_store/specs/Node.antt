-- What a node shows: its desk, and its journal's device.
use Rattle.disk_model.specs.declared.device.Device.{Ghosts}
use Rattle.ring_records.specs.Member.{Member}
use Rattle.ring_records.specs.States.{NodeState}
use Rattle.gated_journal.specs.Journal as journal
use Rattle.group_commit.specs.Desk.{DeskKept}
use Rattle.node_store.specs.declared.node.Node.{Node}

module _ {D : Type 0} {g : Ghosts D} where
  abbrev pub desk_of : Node D g → DeskKept
  desk_of node = node.desk

  abbrev pub member_of : Node D g → Member
  member_of node = node.desk.view.member

  -- what it accepted since its opening, and how much of that is durable or flies
  abbrev pub state_of : Node D g → NodeState
  state_of node = node.desk.view.state

  abbrev pub device_of : Node D g → D
  device_of node = journal.device_of node.journal
