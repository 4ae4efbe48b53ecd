-- Disks of which a read gives another image, or that are synced.
use Rattle.std.specs.Prelude.{◌≡◌, ℕ, List, []}
use Rattle.disk_model.specs.Disk.{Disk}

-- the same disk, of which a read gives this
abbrev pub with_image : Disk → List ℕ → Disk
with_image disk image = record { image = image; stable = disk.stable; ranges = disk.ranges }

-- a stop may leave what a read gives and nothing else
pub record IsSynced (disk : Disk) : Type 0 where
  pub stable : disk.stable ≡ disk.image
  pub ranges : disk.ranges ≡ []
