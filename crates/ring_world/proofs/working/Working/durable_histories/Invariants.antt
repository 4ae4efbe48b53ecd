use Rattle.std.proofs.Common.{◌≡◌, ◌+◌, ◌<◌, ◌≤◌}
use Rattle.ring_audit.specs.Placement.{lists}
use Rattle.ring_world.proofs.Histories.{histories_up_to}
use Rattle.ring_world.proofs.working.Working.durable_histories.Given as goal
use Rattle.ring_world.specs.Capacity.{all_fresh}

-- those of the nodes so far
abbrev pub invariant-loop : goal.invariant-loop
invariant-loop l = record {
  next : l.counter < l.self.ring.size → l.node ≡ l.counter + 1;
  inside : l.node ≤ l.self.ring.size;
  items : lists l.histories.items ≡ histories_up_to all_fresh l.self.ring.size l.self.ring.capacity l.self.ring.events l.counter;
}
