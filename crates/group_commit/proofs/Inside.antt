-- What a desk's fields say.
use Rattle.ring_records.specs.declared.base.Base.{Base}
use Rattle.ring_records.specs.Member.{Member, member}
use Rattle.ring_records.specs.States.{NodeState}
use Rattle.group_commit.specs.Desk.{DeskKept}
use Rattle.group_commit.specs.declared.desk.Desk.TheInside.{Inside}
use Rattle.group_commit.specs.Kept.{state_with}

abbrev pub member_in : Inside → Member
member_in d = member d.node d.n d.capacity

-- the area that is in use
abbrev pub area_in : Inside → Base
area_in d = record { layout = d.layout; epoch = d.epoch; inputs = d.summarised; bytes = d.area }

abbrev pub state_in : Inside → NodeState
state_in d = state_with (area_in d) d.inputs.all.list d.durable d.flying d.pending

-- what the desk shows
abbrev pub shown_by : Inside → DeskKept
shown_by d = record {
  opening = d.base;
  view = record { member = member_in d; run = d.run; state = state_in d; tickets = d.tickets.entries; issued = d.issued; closed = d.is_closed; failed = d.is_failed };
  gone = d.inputs.gone;
}
