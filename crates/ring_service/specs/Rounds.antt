-- What a round of a flusher does.
use Rattle.std.specs.Prelude.{ℕ, ◌≡◌, ◌+◌, ◌-◌, ◌≤◌, ◌⊎◌, List, ◌++◌, length, Option, Some, None, is_some}
use Rattle.std.specs.Option.{option_map}
use Rattle.disk_model.specs.declared.device.Device.{Ghosts}
use Rattle.disk_model.specs.Disk.{LeavesOnly}
use Rattle.ring_records.specs.declared.input.Input.{Input}
use Rattle.ring_records.specs.declared.limits.TheConstants.{BATCH_INPUTS}
use Rattle.ring_records.specs.declared.refusal.Refusal.{Refusal}
use Rattle.ring_records.specs.declared.refusal.Refusal.TheVariants as refused
use Rattle.ring_records.specs.declared.summary.Summary.{Summary}
use Rattle.ring_records.specs.Admission.{newest, used}
use Rattle.ring_records.specs.Known.{after}
use Rattle.ring_records.specs.Member.{Member}
use Rattle.ring_records.specs.Snapshot.{snapshot_len}
use Rattle.ring_records.specs.States.{NodeState, opened}
use Rattle.gated_journal.specs.Areas.{AllReadAs, ReadsAsOneOf}
use Rattle.gated_journal.specs.Reading.{Reading}
use Rattle.gated_journal.specs.Works.{reading_after}
use Rattle.group_commit.specs.declared.landed.Landed.{Landed}
use Rattle.commit_hub.specs.Told.{IsBrought}
use Rattle.group_commit.specs.Next.{Durable, with_batch, with_area, IsLawfulBehind, flying_behind}

-- ---- what is made durable: inputs of a batch; or a summary of all inputs, and those of them that were not durable yet

-- what is known to be durable then
abbrev pub known_behind : Option Summary → List Input → Durable → Durable
known_behind None inputs d = with_batch d inputs
known_behind (Some base) inputs d = with_area d inputs (snapshot_len newest base)

-- the state since its opening of a node that has this durable, and nothing else
abbrev pub at_rest : Durable → NodeState
at_rest d = opened d.base d.inputs

-- and while these inputs fly behind it, as a batch, or as a checkpoint with this summary
abbrev pub with_flying : Durable → List Input → Option Summary → NodeState
with_flying d inputs base = flying_behind d inputs (option_map (snapshot_len newest) base)

-- A batch has few inputs. A summary is that of all inputs: of those since the opening that were durable before, and then
-- these. Where what was durable is lawful, it is so while these fly.
pub record IsMade (member : Member) (opening : Summary) (known : Durable) (inputs : List Input) (base : Option Summary) : Type 0 where
  pub few : base ≡ None → length inputs ≤ BATCH_INPUTS
  pub summed : (s : Summary) → base ≡ Some s → s ≡ after member.node opening (known.inputs ++ inputs)
  pub lawful : IsLawfulBehind member opening (at_rest known) → IsLawfulBehind member opening (with_flying known inputs base)

-- A round made these inputs of the node durable, at least one in a batch: the journal has them behind those that it read
-- as, or in a summary of all in the next epoch, and they are known to be durable behind those that were before. It tells
-- which of the two, and what they let the node release. A stop at any moment of it leaves what was read before, or what is read behind it.
pub record IsRound {V : Type 0} (g : Ghosts V) (member : Member) (opening : Summary)
    (before behind : V) (old new : Durable) (landed : Landed) : Type 0 where
  pub inputs : List Input
  pub base : Option Summary
  pub made : IsMade member opening old inputs base
  pub some : base ≡ None → 1 ≤ length inputs
  pub count : landed.count ≡ length inputs
  pub kind : landed.is_checkpoint ≡ is_some base
  pub next : new ≡ known_behind base inputs old
  pub durable : (r : Reading) → AllReadAs member (g.disk before) r → AllReadAs member (g.disk behind) (reading_after old.base.epoch base inputs r)
  pub within : (r : Reading) → AllReadAs member (g.disk before) r → LeavesOnly g.clock g.left_since before behind (ReadsAsOneOf member r (reading_after old.base.epoch base inputs r))
  pub brought : IsBrought member opening old.inputs inputs landed

-- A stop at any moment of a round leaves what the journal read as, or what it reads as with what the round makes durable.
pub record IsStopped {V : Type 0} (g : Ghosts V) (old new : V) (member : Member) (opening : Summary) (known : Durable) (r : Reading) : Type 0 where
  pub inputs : List Input
  pub base : Option Summary
  pub made : IsMade member opening known inputs base
  pub any_moment : LeavesOnly g.clock g.left_since old new (ReadsAsOneOf member r (reading_after known.base.epoch base inputs r))

-- ---- what a journal has

-- a journal with so many inputs, so much room, and this layout and epoch of its area in use has what is known to be durable
pub record HasKnown (member : Member) (opening : Summary) (known : Durable) (len room layout epoch : ℕ) : Type 0 where
  pub count : len ≡ opening.inputs + length known.inputs
  pub left : room ≡ member.capacity - used known.base known.inputs
  pub form : layout ≡ known.base.layout
  pub area : epoch ≡ known.base.epoch

-- ---- refusals

-- nothing was launched: a growth was refused, or the flusher has ended
abbrev pub IsIdle : Refusal → Type 0
IsIdle why = (why ≡ refused.OutOfMemory) ⊎ (why ≡ refused.Failed)
