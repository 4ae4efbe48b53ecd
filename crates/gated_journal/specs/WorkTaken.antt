-- Which journals take a work, and what their counts are behind it.
use Rattle.std.specs.Prelude.{◌≡◌, ◌+◌, ◌-◌, ◌^◌, ◌<◌, ◌≤◌, ℕ, Bool, if◌then◌else◌, length, Option, Some, None}
use Rattle.ring_records.specs.declared.summary.Summary.{Summary}
use Rattle.ring_records.specs.Admission.{costs_of, newest}
use Rattle.ring_records.specs.Member.{Member}
use Rattle.ring_records.specs.Snapshot.{IsSound, snapshot_len}
use Rattle.gated_journal.specs.Batch.{numbered_by, base_by, shown}
use Rattle.gated_journal.specs.Frames.{AreSuited}
use Rattle.gated_journal.specs.declared.work.Work.{Work}
use Rattle.gated_journal.specs.declared.work.Work.TheVariants as works

-- how many syncs a checkpoint takes, which closes a gate first, or else a batch
abbrev pub syncs_of : Bool → ℕ
syncs_of is_checkpoint = if is_checkpoint then 3 else 2

-- It may be written to a journal with so many inputs, so much room, and this layout and epoch of its area in use.
abbrev pub IsTaken : Member → ℕ → ℕ → ℕ → ℕ → Work → Type 0
IsTaken member count room layout epoch (works.Batch batch) =
    ((shown batch).node ≡ member.node) × ((shown batch).first ≡ count) × (costs_of (shown batch).inputs ≤ room) × AreSuited layout (shown batch).inputs
IsTaken member count room layout epoch (works.Checkpoint made) =
    ((numbered_by made).node ≡ member.node) × ((numbered_by made).first ≡ count)
    × (snapshot_len newest (base_by made) ≤ member.capacity) × IsSound member.n (base_by made) × (epoch + 1 < 2 ^ 40)

-- how many inputs there are then, where it has so many
abbrev pub count_after : Option Summary → ℕ → ℕ → ℕ
count_after None more count = count + more
count_after (Some base) more count = base.inputs

-- how many bytes of the capacity are used then, where its inputs cost so much
abbrev pub used_after : Option ℕ → ℕ → ℕ → ℕ
used_after None costs used = used + costs
used_after (Some length) costs used = length

-- and how many are left
abbrev pub room_after : Option ℕ → ℕ → ℕ → ℕ → ℕ
room_after None capacity costs room = room - costs
room_after (Some length) capacity costs room = capacity - length

-- the layout of the area in use then
abbrev pub layout_after : Option ℕ → ℕ → ℕ
layout_after None layout = layout
layout_after (Some length) layout = newest

-- and its epoch
abbrev pub epoch_after : Option ℕ → ℕ → ℕ
epoch_after None epoch = epoch
epoch_after (Some length) epoch = epoch + 1
