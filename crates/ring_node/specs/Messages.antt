-- The messages that packets carry.
use Rattle.std.specs.Prelude.{List, Option, Some, None}
use Rattle.std.specs.List.{filter_map}
use Rattle.ring_records.specs.declared.msg.Msg.{Msg}
use Rattle.ring_records.specs.declared.packet.Packet.{Packet}
use Rattle.ring_records.specs.declared.packet.Packet.TheVariants.{Carry, Credit}

-- the message of a packet
unfoldable pub message_in : Packet → Option Msg
message_in (Carry msg_no msg) = Some msg
message_in (Credit upto) = None

-- that of a packet, if there is one
abbrev pub carried_by : Option Packet → Option Msg
carried_by None = None
carried_by (Some packet) = message_in packet

-- the messages of these packets, in order
abbrev pub carried_in : List Packet → List Msg
carried_in packets = filter_map message_in packets
