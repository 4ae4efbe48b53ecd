use Rattle.std.proofs.Common.{◌+◌, List, ◌++◌, ◌∷◌, [], ap, sym, ◌∙◌, arith}
use Rattle.ring_node.specs.Node.{NodeView, new_node}
use Rattle.ring_world.specs.Shows.{new_nodes}
use Rattle.ring_world.proofs.Opened.{header_fits, ring_least, ring_most, new_nodes_more, after_next}
use Rattle.ring_world.proofs.working.fill.Goals as goal

pub new-requires : goal.new-requires
new-requires c = record { range = header_fits c.loop.node c.args.size c.args.capacity c.requires.range c.loop.invariant.inside }

pub successor-node-requires-clause-limit : goal.successor-node-requires-clause-limit
successor-node-requires-clause-limit c = ring_most c.args.size c.args.capacity c.requires.range

pub loop-init : goal.loop-init
unfolding new_nodes
loop-init c =
    let first = c.first-node.ensures in
    let least = ring_least c.args.size c.args.capacity c.requires.range in
    let len = c.in_ok-reserve.ensures.len in
    let capacity = c.in_ok-reserve.ensures.ok in
    record {
      next = λ lt. first;
      inside = omega (arith, first, least);
      items = c.in_ok-reserve.ensures.items ∙ c.requires.empty;
      room = omega (arith, len, capacity);
    }

pub loop-preserved : goal.loop-preserved
loop-preserved c =
    let test = c.loop-test.true in
    let here = c.loop.invariant.next test in
    let room = c.loop.invariant.room in
    let len = c.push_reserved.ensures.len in
    let capacity = c.push_reserved.ensures.capacity in
    let new = c.in_ok-new.ensures.made ∙ ap (λ k. new_node k c.args.size c.args.capacity) here in
    record {
      next = λ lt. after_next c.args.size c.loop.node (c.loop.counter + 1) c.successor-node.result here lt c.successor-node.ensures.value;
      inside = c.successor-node.ensures.inside;
      items = ◌∙◌ {A = List NodeView} c.push_reserved.ensures.items ((λ t. c.loop.invariant.items t ++ new t ∷ []) ∙ sym (new_nodes_more c.args.size c.args.capacity c.loop.counter));
      room = omega (arith, len, capacity, room, test);
    }
