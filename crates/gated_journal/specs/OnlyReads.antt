-- What a call does that only reads a device.
use Rattle.std.specs.Prelude.{◌≡◌, ◌⊎◌, ℕ, ◌≤◌, length, Result, OnOk, IfOk, IfErr}
use Rattle.disk_model.specs.declared.device.Device.{Ghosts}
use Rattle.disk_model.specs.Disk.{MayLeave, LeavesOnly, Reaches, synced}
use Rattle.ring_records.specs.declared.refusal.Refusal.{Refusal}
use Rattle.ring_records.specs.declared.refusal.Refusal.TheVariants.{OutOfMemory}
use Rattle.gated_journal.specs.Unread.{IsFault}

-- The device keeps its disk and its reach, and a stop leaves what it might have left before. The call is refused where the device
-- failed, or else for this cause; then, as where it succeeds, nothing failed. Of a reliable device that goes as far as `end` it is
-- refused for this cause alone.
pub record OnlyReadsTo {D T : Type 0} (end : ℕ) (g : Ghosts D) (old new : D) (result : Result T Refusal) (Cause : Refusal → Type 0) : Type 0 where
  pub kept : g.disk new ≡ g.disk old
  pub any_moment : LeavesOnly g.clock g.left_since old new (MayLeave (g.disk old))
  pub later : g.count old ≤ g.count new
  pub same : OnOk result (g.count new ≡ g.count old)
  pub refusal : IfErr result (λ refusal. IsFault (g.count old) (g.count new) refusal ⊎ Cause refusal)
  pub first : IfErr result (λ refusal. IsFault (g.count old) (g.count new) refusal ⊎ (g.count new ≡ g.count old))
  pub stays : g.reach new ≡ g.reach old
  pub works : Reaches (g.reach old) end → IfErr result Cause

-- it goes no further than the device's end
abbrev pub OnlyReads : {D T : Type 0} → Ghosts D → D → D → Result T Refusal → (Refusal → Type 0) → Type 0
OnlyReads g old new result Cause = OnlyReadsTo (length (g.disk old).image) g old new result Cause

-- It makes the device stable before, where that does not fail, so that a stop leaves what it might have left before, and reads
-- the same.
pub record SyncsAndReads {D T : Type 0} (g : Ghosts D) (old new : D) (result : Result T Refusal) (Cause : Refusal → Type 0) : Type 0 where
  pub settled : OnOk result (g.disk new ≡ synced (g.disk old))
  pub kept : (g.disk new ≡ g.disk old) ⊎ (g.disk new ≡ synced (g.disk old))
  pub stable : IfErr result (λ refusal. IsFault (g.count old) (g.count new) refusal ⊎ (g.disk new ≡ synced (g.disk old)))
  pub image : (g.disk new).image ≡ (g.disk old).image
  pub any_moment : LeavesOnly g.clock g.left_since old new (MayLeave (g.disk old))
  pub same : OnOk result (g.count new ≡ g.count old)
  pub refusal : IfErr result (λ refusal. IsFault (g.count old) (g.count new) refusal ⊎ Cause refusal)
  pub first : IfErr result (λ refusal. IsFault (g.count old) (g.count new) refusal ⊎ (g.count new ≡ g.count old))
  pub stays : g.reach new ≡ g.reach old
  pub works : Reaches (g.reach old) (length (g.disk old).image) → IfErr result Cause

-- The device is synced, and nothing else is done to it, in what was made over it or handed back; what is told of an image is
-- told of a synced one. No call failed where it is made, and one that failed is told before all else. A stop at any moment
-- leaves what it might have left at the start.
pub record IsOnlySynced {D T : Type 0} (g : Ghosts D) (device_of : T → D) (old : D) (result : Result T (D × Refusal)) : Type 0 where
  pub same : IfOk result (λ made. g.count (device_of made) ≡ g.count old)
  pub first : IfErr result (λ e. IsFault (g.count old) (g.count e.0) e.1 ⊎ (g.count e.0 ≡ g.count old))
  pub disk : IfOk result (λ made. g.disk (device_of made) ≡ synced (g.disk old))
  pub disk_err : IfErr result (λ e. (g.disk e.0 ≡ g.disk old) ⊎ (g.disk e.0 ≡ synced (g.disk old)))
  pub stable : IfErr result (λ e. IsFault (g.count old) (g.count e.0) e.1 ⊎ (g.disk e.0 ≡ synced (g.disk old)))
  pub any_moment : IfOk result (λ made. LeavesOnly g.clock g.left_since old (device_of made) (MayLeave (g.disk old)))
  pub any_moment_err : IfErr result (λ e. LeavesOnly g.clock g.left_since old e.0 (MayLeave (g.disk old)))
  pub reach : IfOk result (λ made. g.reach (device_of made) ≡ g.reach old)
  pub reach_err : IfErr result (λ e. g.reach e.0 ≡ g.reach old)

-- nothing but a fault of the device
abbrev pub NoCause : Refusal → Type 0
NoCause refusal = ⊥

-- no memory, or else this
abbrev pub MemoryOr : (Refusal → Type 0) → Refusal → Type 0
MemoryOr Cause refusal = (refusal ≡ OutOfMemory) ⊎ Cause refusal
