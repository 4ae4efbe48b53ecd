-- What may happen to the nodes of a ring with a capacity, by the rule of room of this service.
use Rattle.std.specs.Prelude.{ℕ, List}
use Rattle.ring_records.specs.declared.base.Base.{Base}
use Rattle.ring_world.specs.Capacity.{within}
use Rattle.ring_world.specs.Events.{Action}
use Rattle.ring_world.specs.Schedules as scheduled
use Rattle.ring_world.specs.Start.{IsFormatted}

-- Each journal was formatted, by whatever version, and each event may come after those before it.
pub record IsSchedule (start : ℕ → Base) (n capacity : ℕ) (events : List (ℕ × Action)) : Type 0 where
  pub formatted : (i : ℕ) → IsFormatted (start i)
  pub each : scheduled.IsSchedule start n (within capacity) events
