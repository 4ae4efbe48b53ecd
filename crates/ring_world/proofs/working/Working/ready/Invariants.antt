use Rattle.std.proofs.Common.{◌≡◌, ◌+◌, ◌-◌, ◌<◌, ◌≤◌}
use Rattle.ring_world.specs.Ring.{ready}
use Rattle.ring_world.proofs.Sweeps.{ready_from}
use Rattle.ring_world.proofs.working.Working.ready.Given as goal

-- none of the nodes so far is ready
abbrev pub invariant-loop : goal.invariant-loop
invariant-loop l = record {
  next : l.counter < l.self.ring.size → l.from ≡ l.counter + 1;
  inside : l.from ≤ l.self.ring.size;
  left : ready l.self.ring ≡ ready_from l.self.ring (l.counter + 1) (l.self.ring.size - l.counter);
}
