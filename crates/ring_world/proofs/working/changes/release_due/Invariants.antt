use Rattle.std.proofs.Common.{◌≡◌, ◌≤◌, ◌+◌, ◌++◌, length, map, vec_len, vec_capacity}
use Rattle.std.specs.List.{filter_map}
use Rattle.ring_node.specs.Open.{due}
use Rattle.ring_world.specs.Ring.{reply_of, release_of}
use Rattle.ring_world.specs.Shows.{without_due}
use Rattle.ring_world.proofs.working.changes.release_due.Given as goal

-- what was released and what is still due make the whole
abbrev pub invariant-loop-released : goal.invariant-loop-released
invariant-loop-released l = record {
  node : l.node ≡ record l.fn.node { held = l.node.held };
  kept : without_due l.node ≡ without_due l.fn.node;
  events : l.events.items ++ map (release_of l.number) (due l.node.durable l.node.held) ≡ l.fn.events.items ++ map (release_of l.number) (due l.fn.node.durable l.fn.node.held);
  replies : l.replies.items ++ filter_map reply_of (due l.node.durable l.node.held) ≡ l.fn.replies.items ++ filter_map reply_of (due l.fn.node.durable l.fn.node.held);
  events_room : vec_len l.events + length (due l.node.durable l.node.held) ≤ vec_capacity l.events;
  replies_room : vec_len l.replies + length (due l.node.durable l.node.held) ≤ vec_capacity l.replies;
}

abbrev pub decreases-loop-released : goal.decreases-loop-released
decreases-loop-released l = length l.node.held
