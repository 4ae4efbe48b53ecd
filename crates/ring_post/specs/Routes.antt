-- Where a packet goes, and which messages are missing.
use Rattle.std.specs.Prelude.{ℕ, nat_le, Bool, false}
use Rattle.ring_records.specs.declared.packet.Packet.{Packet}
use Rattle.ring_records.specs.declared.packet.Packet.TheVariants.{Carry, Credit}
use Rattle.ring_records.specs.Place.{after, before}

-- the node that a packet of node me goes to, in a ring of n nodes
abbrev pub receiver_of : ℕ → ℕ → Packet → ℕ
receiver_of n me (Carry number msg) = after n me
receiver_of n me (Credit upto) = before n me

-- it is a message that a successor which has so many lacks
abbrev pub is_missing : Packet → ℕ → Bool
is_missing (Carry number msg) heard = nat_le heard number
is_missing (Credit upto) heard = false
