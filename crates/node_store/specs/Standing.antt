-- How a node's desk and its journal stand together: between two calls, and while something flies.
use Rattle.std.specs.Prelude.{◌≡◌, ◌≢◌, ◌⊎◌, ◌+◌, ◌-◌, ℕ, Bool, false, List, None}
use Rattle.disk_model.specs.declared.device.Device.{Ghosts}
use Rattle.disk_model.specs.Disk.{MayLeave}
use Rattle.ring_records.specs.declared.input.Input.{Input}
use Rattle.ring_records.specs.Admission.{used}
use Rattle.ring_records.specs.Member.{Member}
use Rattle.ring_records.specs.States.{durable_in}
use Rattle.ring_records.specs.Lawful.{IsNodeState, IsLawfulState}
use Rattle.gated_journal.specs.declared.journal.Journal.{Journal}
use Rattle.gated_journal.specs.Areas.{ReadsAs}
use Rattle.gated_journal.specs.Journal.{device_of, member_of, len_of, room_of, layout_of, epoch_of, is_spoiled}
use Rattle.gated_journal.specs.Reading.{Reading}
use Rattle.node_core.specs.Core.{IsNodeOf}
use Rattle.group_commit.specs.Desk.{DeskKept, seen}
use Rattle.group_commit.specs.Past.{IsPast}
use Rattle.node_store.specs.State.{durable_held, flown_held}

-- The image reads as the one or as the other, told in one way only: where both are one, as the old one.
abbrev pub ReadsOnce : Member → Reading → Reading → List ℕ → Type 0
ReadsOnce member old new image = ReadsAs member image old ⊎ ((old ≢ new) × ReadsAs member image new)

-- nothing flies, and a journal with these numbers takes the next batch behind the durable inputs, or the next area behind
-- the one in use
pub record IsReady (desk : DeskKept) (spoiled : Bool) (len room layout epoch : ℕ) : Type 0 where
  pub idle : desk.view.state.flying ≡ desk.view.state.durable
  pub none : desk.view.state.checkpoint ≡ None
  pub works : spoiled ≡ false
  pub count : len ≡ desk.opening.inputs + desk.view.state.durable
  pub left : room ≡ desk.view.member.capacity - used desk.view.state.base (durable_in desk.view.state)
  pub form : layout ≡ desk.view.state.base.layout
  pub area : epoch ≡ desk.view.state.base.epoch

module _ {D : Type 0} {g : Ghosts D} where
  -- The node is one of its ring, and has let go of no input; with a past the desk's state is lawful; the journal is the desk's and holds what is durable,
  -- or also what flies, and is ready while the desk has not failed.
  pub record Stands (desk : DeskKept) (journal : Journal D g) : Type 0 where
    pub inside : IsNodeOf desk.view.member.n desk.view.member.node
    pub whole : desk.gone ≡ 0
    pub counts : IsNodeState desk.view.state
    pub lawful : (past : List Input) → IsPast desk.view.member desk.opening past → IsLawfulState desk.view.member (seen past desk).state
    pub named : member_of journal ≡ desk.view.member
    pub holds : (image : List ℕ) → MayLeave (g.disk (device_of journal)) image → ReadsOnce (member_of journal) (durable_held desk) (flown_held desk) image
    pub ready : desk.view.failed ≡ false → IsReady desk (is_spoiled journal) (len_of journal) (room_of journal) (layout_of journal) (epoch_of journal)
