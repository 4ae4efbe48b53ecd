-- What a flush or a checkpoint of a node comes to.
use Rattle.std.specs.Prelude.{ℕ, ◌≡◌, ◌-◌, ◌⊎◌, Bool, true, false, List, Option, Some, None, Result, IfOk, IfErr, OnOk, OnErr}
use Rattle.disk_model.specs.declared.device.Device.{Ghosts}
use Rattle.disk_model.specs.Disk.{LeavesOnly, Reaches}
use Rattle.ring_records.specs.declared.input.Input.{Input}
use Rattle.ring_records.specs.declared.refusal.Refusal.{Refusal}
use Rattle.ring_records.specs.declared.refusal.Refusal.TheVariants as refused
use Rattle.ring_records.specs.Release.{packets, notices}
use Rattle.ring_records.specs.States.{durable_in}
use Rattle.gated_journal.specs.Areas.{AllReadAs}
use Rattle.gated_journal.specs.Reading.{Reading, device_size}
use Rattle.gated_journal.specs.Unread.{IsFault}
use Rattle.group_commit.specs.declared.landed.Landed.{Landed}
use Rattle.group_commit.specs.Desk.{DeskView, landed, seen}
use Rattle.group_commit.specs.DeskCalls.{HasFlown}
use Rattle.group_commit.specs.Past.{IsPast}
use Rattle.node_store.specs.declared.node.Node.{Node}
use Rattle.node_store.specs.Node.{desk_of, device_of, member_of, state_of}
use Rattle.node_store.specs.State.{MayBeLeft}
use Rattle.node_store.specs.Unbegun.{IsUnbegun}

-- the device failed, or a growth was refused
abbrev pub IsStopped : ℕ → ℕ → Refusal → Type 0
IsStopped before now why = IsFault before now why ⊎ (why ≡ refused.OutOfMemory)

-- a flush is refused as 9 where the node had failed, and nowhere else
abbrev pub IsNotFlushed : Bool → ℕ → ℕ → Refusal → Type 0
IsNotFlushed failed before now why = (failed ≡ true → why ≡ refused.Failed) × (failed ≡ false → IsStopped before now why)

-- a checkpoint is refused for what is objected to it, if anything
abbrev pub IsNotWritten : Option Refusal → ℕ → ℕ → Refusal → Type 0
IsNotWritten objection before now why = (objection ≡ Some why) ⊎ ((objection ≡ None) × IsStopped before now why)

module _ {D : Type 0} {g : Ghosts D} where
  -- What was launched, `flown`, is durable, and the journal reads as `held`: the node tells how many inputs that are, and what they
  -- let it release behind each past, in whose history these fly. So it was free to be launched. Or it was refused for this cause:
  -- the device failed, and what was launched flies for good; or it was not begun, and nothing changed. Within its reach the
  -- device does not fail. A stop at any moment leaves what was durable, or also what flew.
  pub record IsFlushed (old new : Node D g) (flown : DeskView) (flying : List Input → List Input) (held : Reading) (result : Result Landed Refusal)
      (Free : Type 0) (Cause : Refusal → Type 0) : Type 0 where
    pub next : OnOk result (desk_of new ≡ record (desk_of old) { view = landed flown })
    pub count : IfOk result (λ l. l.count ≡ flown.state.flying - (state_of old).durable)
    pub packets : IfOk result (λ l. (past : List Input) → IsPast (member_of old) (desk_of old).opening past
        → l.packets.items ≡ packets (member_of old).node (durable_in (seen past (desk_of old)).state) (flying past))
    pub notices : IfOk result (λ l. (past : List Input) → IsPast (member_of old) (desk_of old).opening past
        → l.notices.items ≡ notices (member_of old).node (durable_in (seen past (desk_of old)).state) (flying past))
    pub durable : OnOk result (AllReadAs (member_of old) (g.disk (device_of new)) held)
    pub works : OnOk result Free
    pub cause : IfErr result Cause
    pub fault : IfErr result (λ why. IsFault (g.count (device_of old)) (g.count (device_of new)) why → desk_of new ≡ record (desk_of old) { view = record flown { failed = true } })
    pub same : IfErr result (λ why. IsUnbegun why → (desk_of new ≡ desk_of old) × (device_of new ≡ device_of old))
    pub in_reach : Reaches (g.reach (device_of old)) (device_size (member_of old).capacity) → IfErr result IsUnbegun
    pub any_moment : OnOk result (LeavesOnly g.clock g.left_since (device_of old) (device_of new) (MayBeLeft (record (desk_of old) { view = flown })))
    pub any_moment_err : OnErr result (LeavesOnly g.clock g.left_since (device_of old) (device_of new) (MayBeLeft (desk_of new)))
    pub stays : HasFlown (desk_of old) (desk_of new)
    pub device : OnOk result (g.count (device_of new) ≡ g.count (device_of old))
    pub reach : g.reach (device_of new) ≡ g.reach (device_of old)
