-- What a hub reads of its desk.
use Rattle.std.specs.Prelude.{ℕ, ◌+◌, Bool, not, ◌||◌, ◌&&◌, nat_eq, nat_le, nat_lt, length}
use Rattle.std.specs.Option.{option_map}
use Rattle.ring_records.specs.declared.base.Base.{Base}
use Rattle.ring_records.specs.States.{flying_in}
use Rattle.gated_journal.specs.Batch.{Numbered}
use Rattle.group_commit.specs.Desk.{DeskKept}
use Rattle.group_commit.specs.DeskCalls.{flown_with}
use Rattle.group_commit.specs.Next.{is_to_make_room}
use Rattle.commit_hub.specs.Over.{is_over}

-- an input waits or flies
abbrev pub has_waiting : DeskKept → Bool
has_waiting desk = nat_lt desk.view.state.durable (length desk.view.state.inputs)

-- nothing is to be launched yet: all inputs are durable, more may come, and no checkpoint is to make room
abbrev pub is_resting : Bool → DeskKept → Bool
is_resting is_wanted desk = (not (has_waiting desk) && not (is_over desk)) && not (is_to_make_room is_wanted desk)

-- so many inputs are durable once the next batch lands, as far as is known: they fly, or nothing flies
abbrev pub lands_next : ℕ → DeskKept → Bool
lands_next number desk = nat_le number (desk.opening.inputs + desk.view.state.flying) || nat_eq desk.view.state.flying desk.view.state.durable

-- it is closed, so that it accepts nothing more, and all that it accepted is durable
abbrev pub is_done : DeskKept → Bool
is_done desk = desk.view.closed && not (has_waiting desk)

-- ---- what flies

-- its inputs that fly, with the length of the snapshot where they do as a checkpoint
abbrev pub flying_part : DeskKept → Numbered
flying_part desk = flown_with desk (flying_in desk.view.state) (option_map (λ (b : Base). b.bytes) desk.view.state.checkpoint)
