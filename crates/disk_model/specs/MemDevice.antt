-- What a `MemDevice` shows.
use Rattle.std.specs.Prelude.{ℕ, List}
use Rattle.disk_model.specs.Disk.{Disk, Reach}
use Rattle.disk_model.specs.Buffer as buffer
use Rattle.disk_model.specs.declared.memory.MemDevice.{MemDevice}

abbrev pub disk_of : MemDevice → Disk
disk_of device = buffer.disk_of device.held

abbrev pub limit_of : MemDevice → ℕ
limit_of device = buffer.limit_of device.held

-- a call fails past the limit alone
abbrev pub reach_of : MemDevice → Reach
reach_of device = buffer.reach_of device.held

abbrev pub count_of : MemDevice → ℕ
count_of device = buffer.count_of device.held

-- the moment: how many syncs there were
abbrev pub past_count : MemDevice → ℕ
past_count device = buffer.past_count device.held

-- what a stop since that moment might have left
abbrev pub left_since : MemDevice → ℕ → List ℕ → Type 0
left_since device = buffer.left_since device.held
