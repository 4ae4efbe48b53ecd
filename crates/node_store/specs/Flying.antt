-- A work that flies, and what a flush launches.
use Rattle.std.specs.Prelude.{◌&&◌, nat_lt, if◌then◌else◌, length, ◌≡◌, ◌≢◌, false, List}
use Rattle.disk_model.specs.declared.device.Device.{Ghosts}
use Rattle.ring_records.specs.declared.base.Base.{Base}
use Rattle.group_commit.specs.Desk.{DeskView, DeskKept, launched, landed, seen}
use Rattle.group_commit.specs.DeskCalls.{IsFlying}
use Rattle.group_commit.specs.Launching.{launched_all, needs_checkpoint, next_area}
use Rattle.ring_records.specs.declared.input.Input.{Input}
use Rattle.ring_records.specs.Admission.{costs_of}
use Rattle.ring_records.specs.Lawful.{IsNodeState, IsLawfulState}
use Rattle.ring_records.specs.States.{opened}
use Rattle.gated_journal.specs.declared.journal.Journal.{Journal}
use Rattle.gated_journal.specs.Areas.{AllReadAs}
use Rattle.gated_journal.specs.Journal.{device_of, member_of, len_of, room_of, layout_of, epoch_of, is_spoiled}
use Rattle.gated_journal.specs.Works.{flown_by, reading_after, summary_by}
use Rattle.gated_journal.specs.WorkTaken.{IsTaken, count_after, epoch_after, layout_after, room_after}
use Rattle.gated_journal.specs.declared.work.Work.{Work}
use Rattle.node_core.specs.Core.{IsNodeOf}
use Rattle.group_commit.specs.Past.{IsPast}
use Rattle.node_store.specs.State.{durable_held, flown_held}
use Rattle.node_store.specs.Standing.{IsReady}

-- all that waits, as a checkpoint, where the area in use can't hold it; and else a batch
abbrev pub next_flight : DeskKept → DeskView
next_flight desk = if needs_checkpoint desk then launched_all desk else launched desk.view

abbrev pub flown_next : DeskKept → DeskKept
flown_next desk = record desk { view = next_flight desk }

-- the area in use once nothing waits, where one input waits at most: the next one, where that input needs it
abbrev pub settled_base : DeskKept → Base
settled_base desk = if nat_lt desk.view.state.durable (length desk.view.state.inputs) && needs_checkpoint desk then next_area desk else desk.view.state.base

-- once nothing waits, where one input waits at most
abbrev pub settled : DeskKept → DeskKept
settled desk = record desk { view = record desk.view { state = opened (settled_base desk) desk.view.state.inputs } }

module _ {D : Type 0} {g : Ghosts D} where
  -- The work flies of a desk that has not failed, in a lawful state. The journal holds what is durable, and takes the work;
  -- with it the journal holds what flies too, which is something else, and is ready again.
  pub record Flies (desk : DeskKept) (journal : Journal D g) (work : Work) : Type 0 where
    pub inside : IsNodeOf desk.view.member.n desk.view.member.node
    pub whole : desk.gone ≡ 0
    pub counts : IsNodeState desk.view.state
    pub lawful : (past : List Input) → IsPast desk.view.member desk.opening past → IsLawfulState desk.view.member (seen past desk).state
    pub named : member_of journal ≡ desk.view.member
    pub works : desk.view.failed ≡ false
    pub flying : IsFlying desk (flown_by work)
    pub ready : is_spoiled journal ≡ false
    pub all : AllReadAs (member_of journal) (g.disk (device_of journal)) (durable_held desk)
    pub taken : IsTaken (member_of journal) (len_of journal) (room_of journal) (layout_of journal) (epoch_of journal) work
    pub held : reading_after (epoch_of journal) (summary_by work) (flown_by work).inputs (durable_held desk) ≡ flown_held desk
    pub other : durable_held desk ≢ flown_held desk
    pub behind : IsReady (record desk { view = landed desk.view }) false
        (count_after (summary_by work) (length (flown_by work).inputs) (len_of journal))
        (room_after (flown_by work).snapshot (member_of journal).capacity (costs_of (flown_by work).inputs) (room_of journal))
        (layout_after (flown_by work).snapshot (layout_of journal))
        (epoch_after (flown_by work).snapshot (epoch_of journal))
