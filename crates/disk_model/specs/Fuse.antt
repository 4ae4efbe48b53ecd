-- Which calls a fuse lets fail. They are numbered from 0, the next one.
use Rattle.std.specs.Prelude.{ℕ, Bool, false, nat_eq, nat_le, if◌then◌else◌}
use Rattle.disk_model.specs.declared.fuse.Fuse.{Fuse}
use Rattle.disk_model.specs.declared.fuse.Fuse.TheVariants.{Idle, Armed, Spent}

-- so many pass, and then one fails, or all do
abbrev pub planned : ℕ → Bool → ℕ → Bool
planned after once k = if once then nat_eq k after else nat_le after k

abbrev pub fails_at : Fuse → ℕ → Bool
fails_at Idle k = false
fails_at (Armed after once) k = planned after once k
fails_at Spent k = false
