use Rattle.std.proofs.Common.{◌≡◌, ◌≤◌, ◌<◌, ◌+◌, ◌-◌, vec_len, vec_capacity}
use Rattle.ring_world.specs.Shows.{new_nodes}
use Rattle.ring_world.proofs.working.fill.Given as goal

-- the first nodes are there, and room for the others
abbrev pub invariant-loop : goal.invariant-loop
invariant-loop l = record {
  next : l.counter < l.size → l.node ≡ l.counter + 1;
  inside : l.node ≤ l.size;
  items : l.nodes.items ≡ new_nodes l.size l.capacity l.counter;
  room : vec_len l.nodes + (l.size - l.counter) ≤ vec_capacity l.nodes;
}
