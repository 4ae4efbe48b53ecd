use Rattle.std.proofs.Common.{◌≡◌, ◌+◌, ◌-◌, ◌<◌, ◌≤◌}
use Rattle.ring_world.specs.Dropped.{dropped_at, first_dropped}
use Rattle.ring_world.proofs.Lowest.{lowest_from}
use Rattle.ring_world.proofs.working.Working.dropped.Given as goal

-- none of the nodes so far dropped inputs
abbrev pub invariant-loop : goal.invariant-loop
invariant-loop l = record {
  next : l.counter < l.self.ring.size → l.node ≡ l.counter + 1;
  inside : l.node ≤ l.self.ring.size;
  left : first_dropped l.self.ring.size l.self.ring.capacity l.self.ring.events ≡ lowest_from (dropped_at l.self.ring.size l.self.ring.capacity l.self.ring.events) (l.counter + 1) (l.self.ring.size - l.counter);
}
