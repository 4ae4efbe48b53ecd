-- What the threads of a node count, for how long its device is busy, and how old its last checkpoint is.
use Rattle.std.specs.Prelude.{ℕ, ◌+◌, ◌-◌, ◌/◌, ◌^◌, min, Option, Some, None}
use Rattle.std.specs.Time.{instant_nanos}
use Rattle.std.specs.declared.time.Instant.{Instant}

-- so many more, up to the most that is counted
abbrev pub more : ℕ → ℕ → ℕ
more count by = min (count + by) (2 ^ 64 - 1)

-- how many nanoseconds have passed since then, where there is a clock
abbrev pub nanos_since : Instant → Option Instant → Option ℕ
nanos_since since None = None
nanos_since since (Some now) = Some (instant_nanos now - instant_nanos since)

-- how many nanoseconds have passed since then, `None` where there is no such moment or no clock
abbrev pub nanos_passed : Option Instant → Option Instant → Option ℕ
nanos_passed None now = None
nanos_passed (Some since) now = nanos_since since now

abbrev pub seconds_of : Option ℕ → ℕ
seconds_of None = 0
seconds_of (Some nanos) = nanos / 1_000_000_000

abbrev pub micros_of : Option ℕ → Option ℕ
micros_of None = None
micros_of (Some nanos) = Some (min (nanos / 1_000) (2 ^ 64 - 1))
