use Rattle.std.proofs.Common.{◌≡◌, ◌-◌, Some, set, length, ap, ◌∙◌}
use Rattle.std.specs.List.{filter_map, insert}
use Rattle.ring_node.specs.Open.{serial_of}
use Rattle.ring_world.specs.Ring.{lost, node_at}
use Rattle.ring_world.specs.Step.{nothing_told}
use Rattle.ring_world.proofs.Steps.{stops, tied, replaced, pushed_two}
use Rattle.ring_world.proofs.Ties.{held_is, may_stop, may_fly, place_within}
use Rattle.ring_world.proofs.working.Working.stop_within.Goals as goal
use Rattle.ring_world.proofs.working.Working.stop_within.Goals.{After-put_back}

-- the node stands at its place again
put : (c : After-put_back) → c.put_back.new.nodes.items ≡ set c.self.inside.nodes.items (c.number.result - 1) c.in-Ok.again
put c = c.put_back.ensures ∙ (ap (λ l. insert l (c.number.result - 1) c.in-Ok.again) c.remove.ensures.items ∙ replaced c.self.inside.nodes.items (c.number.result - 1) c.in-Ok.again (place_within c.args.self.ring c.self.inside.log.events.items c.self.inside.nodes.items (tied c.self.inside.log c.self.inside.nodes.items _ c.self.view_is c.self.invariant) c.args.node c.number.result c.number.ensures.value c.number.ensures.range.0 c.requires.inside c.remove.result c.remove.ensures.value))

pub invariant_of-ring : goal.invariant_of-ring
invariant_of-ring c =
    (stops c.self.inside.log c.self.inside.nodes.items _ c.self.view_is c.self.invariant c.args.node c.number.result c.number.ensures.value c.number.ensures.range.0 c.requires.inside
    c.remove.result c.remove.ensures.value _ _ _ (put (goal.at.invariant_of-ring c).After-put_back) c.args.flight c.in-Ok.keeps_flying
    (pushed_two c.in_default.ensures.items (c.new.ensures ∙ ap (λ a. (c.args.node, a)) c.launch.ensures) c.push_reserved.ensures.items c.new-in-Ok.ensures c.push_reserved-in-Ok.ensures.items) c.in-Ok.ensures.next).1

pub returns-in-Ok-clause-step : goal.returns-in-Ok-clause-step
unfolding lost
returns-in-Ok-clause-step c =
    let next = (stops c.self.inside.log c.self.inside.nodes.items _ c.self.view_is c.self.invariant c.args.node c.number.result c.number.ensures.value c.number.ensures.range.0 c.requires.inside
    c.remove.result c.remove.ensures.value _ _ _ (put (goal.at.returns-in-Ok-clause-step c).After-put_back) c.args.flight c.in-Ok.keeps_flying
    (pushed_two c.in_default.ensures.items (c.new.ensures ∙ ap (λ a. (c.args.node, a)) c.launch.ensures) c.push_reserved.ensures.items c.new-in-Ok.ensures c.push_reserved-in-Ok.ensures.items) c.in-Ok.ensures.next).0 in
    let gone = c.in-Ok.ensures.lost ∙ ap (filter_map serial_of) (held_is c.args.self.ring c.self.inside.log.events.items c.self.inside.nodes.items (tied c.self.inside.log c.self.inside.nodes.items _ c.self.view_is c.self.invariant) c.args.node c.number.result c.number.ensures.value c.number.ensures.range.0 c.requires.inside
    c.remove.result c.remove.ensures.value) in (
      c.in-Ok.keeps_flying,
      λ t. ((c.reopened-outcome.ensures ∙ λ u. record nothing_told { lost = gone u; up = Some (length (node_at (next u).ring c.args.node).inputs) }) t, next t),
    )

pub stopped-requires-clause-credited : goal.stopped-requires-clause-credited
stopped-requires-clause-credited c = may_stop c.args.self.ring c.self.inside.log.events.items c.self.inside.nodes.items (tied c.self.inside.log c.self.inside.nodes.items _ c.self.view_is c.self.invariant) c.args.node c.number.result c.number.ensures.value c.number.ensures.range.0 c.requires.inside
    c.remove.result c.remove.ensures.value

pub stopped-requires-clause-free : goal.stopped-requires-clause-free
stopped-requires-clause-free c = may_fly c.args.self.ring c.self.inside.log.events.items c.self.inside.nodes.items (tied c.self.inside.log c.self.inside.nodes.items _ c.self.view_is c.self.invariant) c.args.node c.number.result c.number.ensures.value c.number.ensures.range.0 c.requires.inside
    c.remove.result c.remove.ensures.value c.args.flight c.requires.free c.requires.launched
