use Rattle.std.proofs.Common.{arith, ◌+◌, ◌++◌, List, [], length, take, ap, sym, ◌∙◌, append_assoc, length-append}
use Rattle.std.specs.List.{cons_option}
use Rattle.ring_records.specs.declared.msg.Msg.{Msg}
use Rattle.ring_records.proofs.Iteration.{IsItem}
use Rattle.ring_node.specs.Messages.{message_in, carried_in}
use Rattle.ring_node.proofs.Sending.{carried-more, carried-within}
use Rattle.ring_node.proofs.messages.add_carried.Goals as goal

pub add-requires : goal.add-requires
add-requires c =
    let packets = c.args.packets.now in
    let i = c.loop-packet.packet-index in
    let item : IsItem packets i c.packet-item.result = record { within = c.loop-packet-test.true; is = c.packet-item.is } in
    let more = ap length (carried-more packets i c.packet-item.result item) in
    let sum = length-append (carried_in (take i packets)) (cons_option (message_in c.packet-item.result) []) in
    let within = carried-within packets (i + 1) in
    let len = c.loop-packet.invariant.len in
    let capacity = c.loop-packet.invariant.capacity in
    let room = c.requires.room in
    record { room = omega arith }

pub loop-packet-preserved : goal.loop-packet-preserved
loop-packet-preserved c =
    let packets = c.args.packets.now in
    let i = c.loop-packet.packet-index in
    let item : IsItem packets i c.packet-item.result = record { within = c.loop-packet-test.true; is = c.packet-item.is } in
    let one = cons_option (message_in c.packet-item.result) [] in
    let more = carried-more packets i c.packet-item.result item in
    let long = ap length more in
    let sum = length-append (carried_in (take i packets)) one in
    let len = c.loop-packet.invariant.len in
    let added = c.add.ensures.len in
    record {
      items = c.add.ensures.items ∙ (ap (λ (ms : List Msg). ms ++ one) c.loop-packet.invariant.items ∙ (append_assoc c.args.messages.now.items (carried_in (take i packets)) one
          ∙ ap (λ (ms : List Msg). c.args.messages.now.items ++ ms) (sym more)));
      len = omega arith;
      capacity = c.add.ensures.capacity ∙ c.loop-packet.invariant.capacity;
    }
