-- Which request brings what is of no node of the ring.
use Rattle.std.specs.Prelude.{ℕ, Bool, false, nat_lt}
use Rattle.ring_records.specs.declared.request.Request.{Request}
use Rattle.ring_records.specs.declared.request.Request.TheVariants as ask
use Rattle.ring_records.specs.Message.{candidate_of}

-- the message that the request brings is of a node above n
abbrev pub is_outside : ℕ → Request → Bool
is_outside n (ask.Stand key bid) = false
is_outside n (ask.Take msg_no msg) = nat_lt n (candidate_of msg).node
is_outside n (ask.Acked upto) = false
is_outside n (ask.Retire group floor) = false
is_outside n (ask.Who key) = false
is_outside n (ask.Latest group) = false
