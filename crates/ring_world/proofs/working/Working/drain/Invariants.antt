use Rattle.std.proofs.Common.{◌≡◌, ◌≤◌, ◌-◌, ◌++◌}
use Rattle.ring_world.specs.Ring.{rounds}
use Rattle.ring_world.specs.Left.{IsSameState}
use Rattle.ring_world.proofs.working.Working.drain.Given as goal

-- what was released and what is left make the whole
abbrev pub invariant-loop : goal.invariant-loop
invariant-loop l = record {
  replies : l.fn.first.items ++ (rounds l.most l.node l.fn.self.ring).0 ≡ l.replies.items ++ (rounds (l.most - l.counter) l.node l.self.ring).0;
  ring : (rounds l.most l.node l.fn.self.ring).1 ≡ (rounds (l.most - l.counter) l.node l.self.ring).1;
  inside : l.node ≤ l.self.ring.size;
  same : IsSameState l.fn.self l.self;
}
