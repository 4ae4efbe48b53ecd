-- What a `FuseDevice` shows.
use Rattle.std.specs.Prelude.{ℕ, Bool}
use Rattle.disk_model.specs.Fuse.{fails_at}
use Rattle.disk_model.specs.declared.fuse.FuseDevice.{FuseDevice}

-- the device behind the fuse
abbrev pub inner_of : {D : Type 0} → FuseDevice D → D
inner_of device = device.inner

-- whether the fuse blows at call number k from now, where the next has number 0
abbrev pub will_fail : {D : Type 0} → FuseDevice D → ℕ → Bool
will_fail device k = fails_at device.fuse k

-- how many calls its fuse has failed
abbrev pub own_faults : {D : Type 0} → FuseDevice D → ℕ
own_faults device = device.faults
