-- What the chronicle of an inbox tells, whose latest entry is the first.
use Rattle.std.specs.Prelude.{ℕ, List, [], ◌∷◌, Option, None, Some, max}
use Rattle.std.specs.List.{filter_map}
use Rattle.ring_records.specs.declared.packet.Packet.{Packet}
use Rattle.ring_records.specs.declared.packet.Packet.TheVariants.{Carry, Credit}
use Rattle.ring_records.specs.declared.request.Request.{Request}
use Rattle.ring_records.specs.declared.request.Request.TheVariants.{Take}
use Rattle.ring_post.specs.declared.chronicle.Entry.{Entry}
use Rattle.ring_post.specs.declared.chronicle.Entry.TheVariants.{Heard, Asked, Again, Left, Done, Told, Untold}
use Rattle.ring_post.specs.declared.hand.Hand.{Hand}
use Rattle.ring_post.specs.declared.hand.Hand.TheVariants.{Empty, Fresh, Refused}
use Rattle.ring_post.specs.Letters.{take_in}

-- ---- its messages, as Takes: those that were heard, those that the node was asked for or that were left, each at the first time,
-- and those that the inbox is done with

abbrev pub heard_by : Entry → Option Request
heard_by (Heard packet) = take_in packet
heard_by (Asked take) = None
heard_by (Again take) = None
heard_by (Left take) = None
heard_by (Done take) = None
heard_by (Told upto) = None
heard_by Untold = None

abbrev pub met_by : Entry → Option Request
met_by (Heard packet) = None
met_by (Asked take) = Some take
met_by (Again take) = None
met_by (Left take) = Some take
met_by (Done take) = None
met_by (Told upto) = None
met_by Untold = None

abbrev pub done_by : Entry → Option Request
done_by (Heard packet) = None
done_by (Asked take) = None
done_by (Again take) = None
done_by (Left take) = None
done_by (Done take) = Some take
done_by (Told upto) = None
done_by Untold = None

abbrev pub takes_heard : List Entry → List Request
takes_heard entries = filter_map heard_by entries

abbrev pub takes_met : List Entry → List Request
takes_met entries = filter_map met_by entries

abbrev pub takes_done : List Entry → List Request
takes_done entries = filter_map done_by entries

-- ---- its credits

-- the credit that a packet tells, 0 for a message
abbrev pub credit_in : Packet → ℕ
credit_in (Carry number msg) = 0
credit_in (Credit upto) = upto

-- the greatest credit that was heard
abbrev pub credit_heard : List Entry → ℕ
credit_heard [] = 0
credit_heard (Heard packet ∷ entries) = max (credit_heard entries) (credit_in packet)
credit_heard (Asked take ∷ entries) = credit_heard entries
credit_heard (Again take ∷ entries) = credit_heard entries
credit_heard (Left take ∷ entries) = credit_heard entries
credit_heard (Done take ∷ entries) = credit_heard entries
credit_heard (Told upto ∷ entries) = credit_heard entries
credit_heard (Untold ∷ entries) = credit_heard entries

-- the last credit that the node was told; 0 where it refused one since
abbrev pub credit_told : List Entry → ℕ
credit_told [] = 0
credit_told (Heard packet ∷ entries) = credit_told entries
credit_told (Asked take ∷ entries) = credit_told entries
credit_told (Again take ∷ entries) = credit_told entries
credit_told (Left take ∷ entries) = credit_told entries
credit_told (Done take ∷ entries) = credit_told entries
credit_told (Told upto ∷ entries) = upto
credit_told (Untold ∷ entries) = 0

-- ---- the message at hand, as a Take

abbrev pub at_hand : Hand → Option Request
at_hand Empty = None
at_hand (Fresh number msg) = Some (Take number msg)
at_hand (Refused number msg) = Some (Take number msg)

-- the same, where the node was not asked for it
abbrev pub unmet : Hand → Option Request
unmet Empty = None
unmet (Fresh number msg) = Some (Take number msg)
unmet (Refused number msg) = None
