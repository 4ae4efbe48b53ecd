-- Why a node makes no checkpoint.
use Rattle.std.specs.Prelude.{◌+◌, nat_le, nat_lt, Option}
use Rattle.ring_records.specs.declared.refusal.Refusal.{Refusal}
use Rattle.ring_records.specs.declared.refusal.Refusal.TheVariants.{Full, Limit}
use Rattle.ring_records.specs.States.{NodeState}
use Rattle.ring_records.specs.Admission.{epochs, newest, snapshot_len}
use Rattle.ring_records.specs.Objection.{where_so}
use Rattle.ring_records.specs.Lists.{or_else}
use Rattle.ring_records.specs.Member.{Member}
use Rattle.ring_records.specs.Summary.{summary}

-- why no checkpoint is begun, want of memory aside: the journal may write no other area, or the snapshot of all inputs is
-- longer than the capacity
abbrev pub checkpoint_refusal : Member → NodeState → Option Refusal
checkpoint_refusal m s = or_else (where_so (nat_le epochs (s.base.epoch + 1)) Limit) (where_so (nat_lt m.capacity (snapshot_len newest (summary m.node s.inputs))) Full)
