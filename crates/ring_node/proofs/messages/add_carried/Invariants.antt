use Rattle.std.proofs.Common.{◌≡◌, ◌+◌, ◌++◌, length, take, vec_len, vec_capacity}
use Rattle.ring_node.specs.Messages.{carried_in}
use Rattle.ring_node.proofs.messages.add_carried.Given as goal

-- the messages of the packets so far are added
abbrev pub invariant-loop-packet : goal.invariant-loop-packet
invariant-loop-packet l = record {
  items : l.messages.items ≡ l.initial.messages.items ++ carried_in (take l.packet-index l.packets);
  len : vec_len l.messages ≡ vec_len l.initial.messages + length (carried_in (take l.packet-index l.packets));
  capacity : vec_capacity l.messages ≡ vec_capacity l.initial.messages;
}
