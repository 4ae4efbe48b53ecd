-- Which worlds there are, and what each keeps to.
use Rattle.std.specs.Prelude.{ℕ, ◌≡◌, ◌≤◌, Bool, true, nat_le, ◌&&◌, List, [], take, false, not}
use Rattle.ring_records.specs.declared.limits.TheConstants.{GREATEST_CAPACITY, LEAST_CAPACITY}
use Rattle.ring_node.specs.Open.{Open}
use Rattle.ring_world.specs.Counts.{IsCounted}
use Rattle.ring_world.specs.CapacitySchedule.{IsSchedule}
use Rattle.ring_world.specs.Rest.{IsAtRest}
use Rattle.ring_world.specs.Capacity.{all_fresh}
use Rattle.ring_world.specs.declared.log.Log.{Log}
use Rattle.ring_world.specs.State.{State}
use Rattle.ring_world.specs.declared.event.Event.{Event}
use Rattle.ring_world.specs.declared.event.Event.TheVariants.{Submit, Flush, Deliver, DeliverAll, Credit, Crash, Stop, Checkpoint, StopCheckpoint}

-- a ring has 2 to 16 nodes, and a capacity that a journal may have
abbrev pub is_ring : ℕ → ℕ → Bool
is_ring size capacity = nat_le 2 size && (nat_le size 16 && (nat_le LEAST_CAPACITY capacity && nat_le capacity GREATEST_CAPACITY))

-- what a log says of a ring, of which this is known beside it: whether it failed, and the open tickets of its nodes
abbrev pub by_log : Log → Bool → List (List Open) → State
by_log log failed held = record {
  ring = record {
    size = log.size;
    capacity = log.capacity;
    eager = log.eager;
    failed = failed;
    events = log.events.items;
    told = take log.told log.events.items;
    held = held;
  };
  tickets = log.tickets;
}

-- what is left of it when it fails: what was told
abbrev pub failed : State → State
failed s = record s { ring = record s.ring { failed = true; events = s.ring.told; held = [] } }

-- What every world keeps to between its events: it has 2 to 16 nodes, and all that happened was told, and is a schedule;
-- while it works, no more tickets are open than numbers are taken, and in an eager one nothing waits.
pub record IsWorld (s : State) : Type 0 where
  pub least : 2 ≤ s.ring.size
  pub most : s.ring.size ≤ 16
  pub told : s.ring.events ≡ s.ring.told
  pub lawful : IsSchedule all_fresh s.ring.size s.ring.capacity s.ring.told
  pub counted : IsCounted s.ring s.tickets
  pub rest : IsAtRest s.ring

-- want of memory changes nothing
unfoldable pub is_lasting : State → Event → Bool
is_lasting s (Submit node q) = not s.ring.eager
is_lasting s (Flush node) = false
is_lasting s (Deliver from msg_no) = not s.ring.eager
is_lasting s DeliverAll = false
is_lasting s (Credit from upto) = not s.ring.eager
is_lasting s (Crash node) = false
is_lasting s (Stop node call tear) = false
is_lasting s (Checkpoint node) = false
is_lasting s (StopCheckpoint node call tear) = false
