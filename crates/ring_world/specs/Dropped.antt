-- Which nodes of a ring have their first inputs no more, so that a world does not give its histories.
use Rattle.std.specs.Prelude.{ℕ, List, Option, nat_lt}
use Rattle.std.specs.List.{filter_map, range_with_len}
use Rattle.ring_records.specs.declared.refusal.Refusal.{Refusal}
use Rattle.ring_records.specs.declared.refusal.Refusal.TheVariants as refused
use Rattle.ring_records.specs.Objection.{where_so}
use Rattle.ring_records.specs.Lists.{first, or_else}
use Rattle.ring_world.specs.Events.{Action}
use Rattle.ring_world.specs.Capacity.{process, all_fresh}
use Rattle.ring_world.specs.State.{State}

-- node i has its first inputs no more
abbrev pub dropped_at : ℕ → ℕ → List (ℕ × Action) → ℕ → Option Refusal
dropped_at n capacity events i = where_so (nat_lt 0 (process all_fresh n capacity events i).dropped) (refused.Dropped i)

-- the lowest node of which that is so
abbrev pub first_dropped : ℕ → ℕ → List (ℕ × Action) → Option Refusal
first_dropped n capacity events = first (filter_map (dropped_at n capacity events) (range_with_len 1 n))

-- why a world does not give the histories of its nodes, want of memory aside
abbrev pub withheld : State → Option Refusal
withheld w = or_else (where_so w.ring.failed refused.Failed) (first_dropped w.ring.size w.ring.capacity w.ring.events)
