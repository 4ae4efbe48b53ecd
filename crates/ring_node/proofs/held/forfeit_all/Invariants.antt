use Rattle.std.proofs.Common.{◌≡◌, ℕ, true}
use Rattle.std.specs.VecDeque.{deque_len}
use Rattle.node_store.specs.Node as nodes
use Rattle.ring_node.specs.Held.{AreHeld}
use Rattle.ring_node.proofs.held.forfeit_all.Given as goal

-- the tickets that are left are open
abbrev pub invariant-loop-first : goal.invariant-loop-first
invariant-loop-first l = record {
  held : (from top : ℕ) × AreHeld l.node.desk.view.member.node l.node.desk.view.run from top l.node.desk.view.tickets l.held.items;
  closed : l.node.desk.view.closed ≡ true;
  desk : l.node.desk ≡ record l.initial.node.desk { view = record l.initial.node.desk.view { tickets = l.node.desk.view.tickets } };
  device : nodes.device_of l.node ≡ nodes.device_of l.initial.node;
}

abbrev pub decreases-loop-first : goal.decreases-loop-first
decreases-loop-first l = deque_len l.held
