-- What a letter carries, where it goes and what it brings.
use Rattle.std.specs.Prelude.{ℕ, Option, None, Some}
use Rattle.ring_records.specs.declared.packet.Packet.{Packet}
use Rattle.ring_records.specs.declared.packet.Packet.TheVariants.{Carry, Credit}
use Rattle.ring_records.specs.declared.request.Request.{Request}
use Rattle.ring_records.specs.declared.request.Request.TheVariants.{Take}
use Rattle.ring_post.specs.declared.letter.RingPlace.{RingPlace}
use Rattle.ring_post.specs.Routes.{receiver_of}

-- a packet that this node of a ring of so many sent
pub record Sent : Type 0 where
  pub node : ℕ
  pub nodes : ℕ
  pub packet : Packet

abbrev pub sent_by : RingPlace → Packet → Sent
sent_by place packet = record { node = place.node; nodes = place.nodes; packet = packet }

-- the node that it goes to
abbrev pub goes_to : Sent → ℕ
goes_to letter = receiver_of letter.nodes letter.node letter.packet

-- what its receiver is asked to take for it
abbrev pub take_in : Packet → Option Request
take_in (Carry number msg) = Some (Take number msg)
take_in (Credit upto) = None
