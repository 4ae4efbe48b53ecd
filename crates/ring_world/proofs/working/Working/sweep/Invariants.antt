use Rattle.std.proofs.Common.{◌≡◌, ◌+◌, ◌-◌, ◌≤◌}
use Rattle.ring_world.specs.Ring.{swept}
use Rattle.ring_world.specs.Left.{IsSameState}
use Rattle.ring_world.proofs.working.Working.sweep.Given as goal

-- what was delivered and what is left make the whole
abbrev pub invariant-loop : goal.invariant-loop
invariant-loop l = record {
  count : (swept 10000 l.fn.self.ring).0 ≡ l.count + (swept (10000 - l.counter) l.self.ring).0;
  state : (swept 10000 l.fn.self.ring).1 ≡ (swept (10000 - l.counter) l.self.ring).1;
  few : l.count ≤ l.counter;
  same : IsSameState l.fn.self l.self;
}
