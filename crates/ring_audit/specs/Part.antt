-- What the placed inputs of one node leave.
use Rattle.std.specs.Prelude.{ℕ, ◌≡◌, List, [], Option, Some, None}
use Rattle.ring_records.specs.declared.input.Input.{Input}
use Rattle.ring_records.specs.declared.msg.Msg.{Msg}
use Rattle.ring_records.specs.declared.packet.Packet.{Packet}
use Rattle.ring_records.specs.declared.packet.Packet.TheVariants.{Carry, Credit}
use Rattle.ring_records.specs.Allowed.{IsAllowed}
use Rattle.ring_records.specs.Emission.{sent}
use Rattle.ring_records.specs.Lists.{EachAfter}
use Rattle.ring_records.specs.Summary.{summary}
use Rattle.ring_audit.specs.declared.part.Part.{Part}

-- the message of a packet
unfoldable pub message_in : Packet → Option Msg
message_in (Carry place msg) = Some msg
message_in (Credit upto) = None

-- that of a packet, if there is one
abbrev pub carried_by : Option Packet → Option Msg
carried_by None = None
carried_by (Some packet) = message_in packet

-- it is what the inputs h of node i of a ring of n leave
pub record PartStandsFor (n i : ℕ) (part : Part) (h : List Input) : Type 0 where
  pub node : part.node ≡ i
  pub me : part.core.me ≡ i
  pub ring : part.core.size ≡ n
  pub knows : part.core.known ≡ summary i h
  pub allowed : EachAfter (IsAllowed i n) [] h
  pub sent : part.sent.items ≡ sent i h
