-- When a desk launches, what it launches, and what flies then.
use Rattle.std.specs.Prelude.{◌<◌, ◌≤◌, ◌+◌, Bool, if◌then◌else◌, length, nat_le, nat_lt, Option, Some, None, ◌≡◌, ◌⊎◌, ◌&&◌, ◌||◌, not, false}
use Rattle.ring_records.specs.declared.base.Base.{Base}
use Rattle.ring_records.specs.declared.refusal.Refusal.{Refusal}
use Rattle.ring_records.specs.declared.refusal.Refusal.TheVariants as refused
use Rattle.ring_records.specs.Admission.{newest, epochs}
use Rattle.ring_records.specs.Objection.{where_so}
use Rattle.ring_records.specs.Lists.{or_else}
use Rattle.ring_records.specs.States.{is_idle, launched_base, flying_in}
use Rattle.ring_records.specs.Snapshot.{snapshot_len}
use Rattle.group_commit.specs.Opening.{waits_for_area}
use Rattle.group_commit.specs.Desk.{DeskView, DeskKept, known_all, launched}
use Rattle.std.specs.Option.{option_map}
use Rattle.gated_journal.specs.declared.work.Work.{Work}
use Rattle.gated_journal.specs.Works.{flown_by, summary_by}
use Rattle.group_commit.specs.DeskCalls.{flown_with}
use Rattle.group_commit.specs.Next.{durable_part, IsNext, is_to_make_room}

-- what the area behind the one in use stands for, where it begins with the summary of all that the node accepted
abbrev pub next_area : DeskKept → Base
next_area desk = record {
  layout = newest;
  epoch = desk.view.state.base.epoch + 1;
  inputs = length desk.view.state.inputs;
  bytes = snapshot_len newest (known_all desk);
}

-- all its inputs fly, as a checkpoint
abbrev pub launched_all : DeskKept → DeskView
launched_all desk = record desk.view {
  state = record desk.view.state { flying = length desk.view.state.inputs; checkpoint = Some (next_area desk) };
}

-- why no batch is launched, before memory is asked for
abbrev pub launch_objection : DeskView → Option Refusal
launch_objection desk =
    if desk.failed then Some refused.Failed
    else (if is_idle desk.state then None
    else Some refused.Busy)

-- why no checkpoint is launched, before memory is asked for: as for a batch; or the journal wrote all areas that it may;
-- or the snapshot is longer than the capacity
abbrev pub checkpoint_objection : DeskKept → Option Refusal
checkpoint_objection desk =
    or_else (launch_objection desk.view)
    (or_else (where_so (nat_le epochs (desk.view.state.base.epoch + 1)) refused.Limit)
    (where_so (nat_lt desk.view.member.capacity (snapshot_len newest (known_all desk))) refused.Full))

-- An input waits that the area in use can't hold, or flies into the next one: no batch is launched, but a checkpoint.
abbrev pub needs_checkpoint : DeskKept → Bool
needs_checkpoint desk = waits_for_area (launched_base desk.view.state) desk.view.state.inputs

-- the journal may write the next area, and its snapshot fits the capacity
pub record MayRenew (desk : DeskKept) : Type 0 where
  pub left : (launched_base desk.view.state).epoch + 1 < epochs
  pub fits : snapshot_len newest (known_all desk) ≤ desk.view.member.capacity

-- so may one of the desk's node that has what the desk has durable
abbrev pub IsFitting : DeskKept → Work → Type 0
IsFitting desk work = IsNext desk.view.member desk.opening (durable_part desk) work

-- its next work is a checkpoint: one is needed, or is to make room, and something waits or the desk takes requests
abbrev pub is_checkpoint_next : Bool → DeskKept → Bool
is_checkpoint_next is_wanted desk = needs_checkpoint desk || is_to_make_room is_wanted desk && (nat_lt desk.view.state.durable (length desk.view.state.inputs) || not (desk.view.closed || desk.view.failed))

-- the desk once it flies
abbrev pub launched_next : Bool → DeskKept → DeskKept
launched_next is_wanted desk = record desk { view = if is_checkpoint_next is_wanted desk then launched_all desk else launched desk.view }

-- These are all the inputs that wait, with the summary of all; or the first that wait, one at least, where that is not next.
pub record IsWorkOf (is_wanted : Bool) (old new : DeskKept) (work : Work) : Type 0 where
  pub summary : summary_by work ≡ (if is_checkpoint_next is_wanted old then Some (known_all old) else None)
  pub flown : flown_by work ≡ flown_with old (flying_in new.view.state) (option_map (snapshot_len newest) (summary_by work))
  pub some : summary_by work ≡ None → old.view.state.durable < length old.view.state.inputs

-- Nothing waits, and no checkpoint is next.
pub record IsNoWork (is_wanted : Bool) (desk : DeskKept) : Type 0 where
  pub all : desk.view.state.durable ≡ length desk.view.state.inputs
  pub batch : is_checkpoint_next is_wanted desk ≡ false

-- why nothing is launched
abbrev pub IsUnlaunched : DeskKept → Refusal → Type 0
IsUnlaunched desk why = (launch_objection desk.view ≡ Some why) ⊎ ((launch_objection desk.view ≡ None) × (why ≡ refused.OutOfMemory))
