use Rattle.std.proofs.Common.{ap}
use Rattle.ring_records.specs.States.{NodeState}
use Rattle.ring_world.proofs.Steps.{tied}
use Rattle.ring_world.proofs.Ties.{node_is}
use Rattle.ring_world.proofs.working.Working.at.Goals as goal

pub returns : goal.returns
returns c =
    let here = node_is c.args.self.now.ring c.self.inside.log.events.items c.self.inside.nodes.items (tied c.self.inside.log c.self.inside.nodes.items _ c.self.view_is c.self.invariant) c.args.node c.number.result c.number.ensures.value c.number.ensures.range.0 c.requires.inside
    c.index.result.now c.index.ensures in
    record { member = here.is; inputs = ap (λ (s : NodeState). s.inputs) here.state; durable = ap (λ (s : NodeState). s.durable) here.state; dropped = here.dropped; state = here.state }
