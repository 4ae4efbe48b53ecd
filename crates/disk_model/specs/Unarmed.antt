-- Fuses that were never armed, and what their devices count and reach.
use Rattle.std.specs.Prelude.{Bool, true, false, ℕ, ◌+◌, ◌-◌, ◌^◌, ◌&&◌, min}
use Rattle.disk_model.specs.declared.fuse.Fuse.{Fuse}
use Rattle.disk_model.specs.declared.fuse.Fuse.TheVariants.{Idle, Armed, Spent}
use Rattle.disk_model.specs.Disk.{Reach}
use Rattle.disk_model.specs.declared.fuse.FuseDevice.{FuseDevice}

-- it was never armed
abbrev pub is_idle : Fuse → Bool
is_idle Idle = true
is_idle (Armed after once) = false
is_idle Spent = false

-- every call passes, and it was never armed
abbrev pub is_idle_device : {D : Type 0} → FuseDevice D → Bool
is_idle_device device = is_idle device.fuse

-- the failures of the device behind it and its own, as far as a `u64` counts
abbrev pub count_of : {D : Type 0} → (D → ℕ) → FuseDevice D → ℕ
count_of count device = min (count device.inner + device.faults) (2 ^ 64 - 1)

-- that of the device behind it, which is reliable only while the fuse was never armed
abbrev pub reach_of : {D : Type 0} → (D → Reach) → FuseDevice D → Reach
reach_of reach device = record { limit = (reach device.inner).limit; reliable = (reach device.inner).reliable && is_idle device.fuse }
