-- What a `FileDevice` shows: what its file is to hold.
use Rattle.std.specs.Prelude.{ℕ, Bool, false, List}
use Rattle.disk_model.specs.Disk.{Disk, Reach}
use Rattle.disk_model.specs.Buffer as buffer
use Rattle.disk_model.specs.declared.file.FileDevice.{FileDevice}

abbrev pub disk_of : FileDevice → Disk
disk_of device = buffer.disk_of device.held

abbrev pub limit_of : FileDevice → ℕ
limit_of device = buffer.limit_of device.held

-- any call may fail
abbrev pub reach_of : FileDevice → Reach
reach_of device = record { limit = limit_of device; reliable = false }

abbrev pub count_of : FileDevice → ℕ
count_of device = device.faults

-- the moment: how many syncs there were
abbrev pub past_count : FileDevice → ℕ
past_count device = buffer.past_count device.held

-- what a stop since that moment might have left
abbrev pub left_since : FileDevice → ℕ → List ℕ → Type 0
left_since device = buffer.left_since device.held

-- the file has told an error
abbrev pub has_failed : FileDevice → Bool
has_failed device = device.has_failed
