use Rattle.std.proofs.Common.{◌++◌, ◌-◌, ap, sym, ◌∙◌, arith}
use Rattle.std.specs.List.{filter_map}
use Rattle.ring_records.specs.States.{NodeState}
use Rattle.ring_node.specs.Node.{NodeView, state_of}
use Rattle.ring_node.specs.Open.{due}
use Rattle.ring_world.specs.State.{State}
use Rattle.ring_world.specs.Ring.{node_at, landing, landed, replies, reply_of}
use Rattle.ring_world.proofs.Reached.{node_settled}
use Rattle.ring_world.proofs.Steps.{tied, landed_due, landed_count, rounds}
use Rattle.ring_world.proofs.Ties.{landed_few}
use Rattle.ring_world.proofs.working.Working.round.Goals as goal

pub release_due-requires-clause-events : goal.release_due-requires-clause-events
release_due-requires-clause-events c =
    let few = landed_few c.args.self.now.ring c.self.inside.log.events.items c.self.inside.nodes.items (tied c.self.inside.log c.self.inside.nodes.items _ c.self.view_is c.self.invariant)
    c.args.node c.number.result c.number.ensures.value c.number.ensures.range.0 c.requires.inside c.index_mut.result.now c.index_mut.ensures.value c.land.new.node c.index_mut-2.result.now c.index.result.now (ap (λ (v : NodeView). v.held) c.in_ok-count.ensures.node) c.index_mut-2.ensures.value c.index.ensures in
    let tickets = c.open_tickets-open.ensures in
    let added = c.saturating_add.ensures in
    let room = c.in_ok-reserve.ensures.ok in
    let len = c.in_ok-reserve.ensures.len in
    let pushed = c.land.ensures.len in
    let kept = c.land.ensures.capacity in
    grind (arith, few, tickets, added, room, len, pushed, kept)

pub release_due-requires-clause-replies : goal.release_due-requires-clause-replies
release_due-requires-clause-replies c =
    let few = landed_few c.args.self.now.ring c.self.inside.log.events.items c.self.inside.nodes.items (tied c.self.inside.log c.self.inside.nodes.items _ c.self.view_is c.self.invariant)
    c.args.node c.number.result c.number.ensures.value c.number.ensures.range.0 c.requires.inside c.index_mut.result.now c.index_mut.ensures.value c.land.new.node c.index_mut-2.result.now c.index.result.now (ap (λ (v : NodeView). v.held) c.in_ok-count.ensures.node) c.index_mut-2.ensures.value c.index.ensures in
    let tickets = c.open_tickets-open.ensures in
    let len = c.in_ok-reserve-2.ensures.len in
    let room = c.in_ok-reserve-2.ensures.ok in
    omega (arith, few, tickets, len, room)

pub invariant_of-self-2 : goal.invariant_of-self-2
invariant_of-self-2 c =
    (rounds c.self.inside.log c.self.inside.nodes.items _ c.self.view_is c.self.invariant
    c.args.node c.number.result c.number.ensures.value c.number.ensures.range.0 c.requires.inside c.index_mut.result.now c.index_mut.ensures.value
    c.args.flight c.land.new.events.items c.land.new.node c.index_mut-2.result.now
    (c.in_ok-count.ensures.events ∙ ap (λ es. es ++ landing c.args.flight c.args.node (state_of c.index_mut.result.now)) c.in_ok-reserve.ensures.items) c.in_ok-count.ensures.node c.index_mut-2.ensures.value
    c.release_due.new.events.items c.release_due.new.node c.release_due.ensures.events c.release_due.ensures.node).1

pub returns-clause-next : goal.returns-clause-next
returns-clause-next c =
    ap (λ (s : State). s.ring) (rounds c.self.inside.log c.self.inside.nodes.items _ c.self.view_is c.self.invariant
    c.args.node c.number.result c.number.ensures.value c.number.ensures.range.0 c.requires.inside c.index_mut.result.now c.index_mut.ensures.value
    c.args.flight c.land.new.events.items c.land.new.node c.index_mut-2.result.now
    (c.in_ok-count.ensures.events ∙ ap (λ es. es ++ landing c.args.flight c.args.node (state_of c.index_mut.result.now)) c.in_ok-reserve.ensures.items) c.in_ok-count.ensures.node c.index_mut-2.ensures.value
    c.release_due.new.events.items c.release_due.new.node c.release_due.ensures.events c.release_due.ensures.node).0

pub returns-clause-replies : goal.returns-clause-replies
unfolding replies
returns-clause-replies c =
    c.release_due.ensures.replies ∙ (ap (λ rs. rs ++ filter_map reply_of (due c.index_mut-2.result.now.durable c.index_mut-2.result.now.held)) c.in_ok-reserve-2.ensures.items
    ∙ ap (λ ts. c.args.list.now.items ++ filter_map reply_of ts) (landed_due c.self.inside.log c.self.inside.nodes.items _ c.self.view_is c.self.invariant
    c.args.node c.number.result c.number.ensures.value c.number.ensures.range.0 c.requires.inside c.index_mut.result.now c.index_mut.ensures.value
    c.args.flight c.land.new.events.items c.land.new.node c.index_mut-2.result.now
    (c.in_ok-count.ensures.events ∙ ap (λ es. es ++ landing c.args.flight c.args.node (state_of c.index_mut.result.now)) c.in_ok-reserve.ensures.items) c.in_ok-count.ensures.node c.index_mut-2.ensures.value))

pub returns-clause-count : goal.returns-clause-count
returns-clause-count c =
    let w = c.args.self.now.ring in
    let next = (rounds c.self.inside.log c.self.inside.nodes.items _ c.self.view_is c.self.invariant
    c.args.node c.number.result c.number.ensures.value c.number.ensures.range.0 c.requires.inside c.index_mut.result.now c.index_mut.ensures.value
    c.args.flight c.land.new.events.items c.land.new.node c.index_mut-2.result.now
    (c.in_ok-count.ensures.events ∙ ap (λ es. es ++ landing c.args.flight c.args.node (state_of c.index_mut.result.now)) c.in_ok-reserve.ensures.items) c.in_ok-count.ensures.node c.index_mut-2.ensures.value
    c.release_due.new.events.items c.release_due.new.node c.release_due.ensures.events c.release_due.ensures.node).0 in
    c.in_ok-count.ensures.count ∙ (landed_count c.self.inside.log c.self.inside.nodes.items _ c.self.view_is c.self.invariant
    c.args.node c.number.result c.number.ensures.value c.number.ensures.range.0 c.requires.inside c.index_mut.result.now c.index_mut.ensures.value
    c.args.flight c.land.new.events.items c.land.new.node c.index_mut-2.result.now
    (c.in_ok-count.ensures.events ∙ ap (λ es. es ++ landing c.args.flight c.args.node (state_of c.index_mut.result.now)) c.in_ok-reserve.ensures.items) c.in_ok-count.ensures.node c.index_mut-2.ensures.value
    ∙ (ap (λ (s : NodeState). s.durable - (node_at w c.args.node).durable) (sym (node_settled (landed c.args.flight c.args.node w) c.args.node c.args.node))
    ∙ ap (λ (u : State). (node_at u.ring c.args.node).durable - (node_at w c.args.node).durable) (sym next)))
