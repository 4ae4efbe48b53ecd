use Rattle.std.proofs.Common.{◌++◌, ◌∷◌, [], ap, ◌∙◌, arith}
use Rattle.std.specs.List.{filter_map}
use Rattle.ring_node.specs.Open.{due}
use Rattle.ring_world.specs.Ring.{handed, replies, reply_of}
use Rattle.ring_world.specs.State.{State}
use Rattle.ring_world.proofs.Steps.{tied, asked_due, asks}
use Rattle.ring_world.proofs.Ties.{asked_few}
use Rattle.ring_world.proofs.working.Working.ask.Goals as goal

pub release_due-requires-clause-events : goal.release_due-requires-clause-events
release_due-requires-clause-events c =
    let few = asked_few c.args.self.now.ring c.self.inside.log.events.items c.self.inside.nodes.items (tied c.self.inside.log c.self.inside.nodes.items _ c.self.view_is c.self.invariant)
    c.args.node c.number.result c.number.ensures.value c.number.ensures.range.0 c.requires.inside c.index_mut.result.now c.index_mut.ensures.value
    c.self.invariant.1.sealed
    c.args.serial c.args.question.now c.ask.new.self c.index_mut-2.result.now c.in_ok-ask.ensures.next c.index_mut-2.ensures.value in
    let len = c.in_ok-reserve.ensures.len in
    let room = c.in_ok-reserve.ensures.ok in
    let handed = c.push_packet.ensures.len in
    let kept = c.push_packet.ensures.capacity in
    let pushed = c.push_reserved.ensures.len in
    let same = c.push_reserved.ensures.capacity in
    omega (arith, few, len, room, handed, kept, pushed, same)

pub release_due-requires-clause-replies : goal.release_due-requires-clause-replies
release_due-requires-clause-replies c =
    let few = asked_few c.args.self.now.ring c.self.inside.log.events.items c.self.inside.nodes.items (tied c.self.inside.log c.self.inside.nodes.items _ c.self.view_is c.self.invariant)
    c.args.node c.number.result c.number.ensures.value c.number.ensures.range.0 c.requires.inside c.index_mut.result.now c.index_mut.ensures.value
    c.self.invariant.1.sealed
    c.args.serial c.args.question.now c.ask.new.self c.index_mut-2.result.now c.in_ok-ask.ensures.next c.index_mut-2.ensures.value in
    let len = c.in_ok-replies.ensures.len in
    let room = c.in_ok-replies.ensures.capacity in
    omega (arith, few, len, room)

pub invariant_of-self-2 : goal.invariant_of-self-2
invariant_of-self-2 c =
    (asks c.self.inside.log c.self.inside.nodes.items _ c.self.view_is c.self.invariant
    c.args.node c.number.result c.number.ensures.value c.number.ensures.range.0 c.requires.inside c.index_mut.result.now c.index_mut.ensures.value
    c.args.serial c.args.question.now c.requires.released c.push_packet.new.events.items _ c.ask.new.self c.index_mut-2.result.now
    (c.push_packet.ensures.events ∙ ap (λ es. es ++ handed c.self.inside.log.size c.args.node c.args.question.now) c.in_ok-reserve.ensures.items)
    (c.push_reserved.ensures.items ∙ ap (λ e. c.push_packet.new.events.items ++ e ∷ []) c.new.ensures) c.in_ok-ask.ensures.next c.index_mut-2.ensures.value
    c.release_due.new.events.items c.release_due.new.node c.release_due.ensures.events c.release_due.ensures.node).1

pub returns-clause-next : goal.returns-clause-next
returns-clause-next c =
    ap (λ (s : State). s.ring) (asks c.self.inside.log c.self.inside.nodes.items _ c.self.view_is c.self.invariant
    c.args.node c.number.result c.number.ensures.value c.number.ensures.range.0 c.requires.inside c.index_mut.result.now c.index_mut.ensures.value
    c.args.serial c.args.question.now c.requires.released c.push_packet.new.events.items _ c.ask.new.self c.index_mut-2.result.now
    (c.push_packet.ensures.events ∙ ap (λ es. es ++ handed c.self.inside.log.size c.args.node c.args.question.now) c.in_ok-reserve.ensures.items)
    (c.push_reserved.ensures.items ∙ ap (λ e. c.push_packet.new.events.items ++ e ∷ []) c.new.ensures) c.in_ok-ask.ensures.next c.index_mut-2.ensures.value
    c.release_due.new.events.items c.release_due.new.node c.release_due.ensures.events c.release_due.ensures.node).0

pub returns-clause-replies : goal.returns-clause-replies
unfolding replies
returns-clause-replies c =
    c.release_due.ensures.replies ∙ (ap (λ rs. rs ++ filter_map reply_of (due c.index_mut-2.result.now.durable c.index_mut-2.result.now.held)) c.in_ok-replies.ensures.items
    ∙ ap (filter_map reply_of) (asked_due c.self.inside.log c.self.inside.nodes.items _ c.self.view_is c.self.invariant
    c.args.node c.number.result c.number.ensures.value c.number.ensures.range.0 c.requires.inside c.index_mut.result.now c.index_mut.ensures.value
    c.args.serial c.args.question.now c.requires.released c.push_packet.new.events.items _ c.ask.new.self c.index_mut-2.result.now
    (c.push_packet.ensures.events ∙ ap (λ es. es ++ handed c.self.inside.log.size c.args.node c.args.question.now) c.in_ok-reserve.ensures.items)
    (c.push_reserved.ensures.items ∙ ap (λ e. c.push_packet.new.events.items ++ e ∷ []) c.new.ensures) c.in_ok-ask.ensures.next c.index_mut-2.ensures.value))
