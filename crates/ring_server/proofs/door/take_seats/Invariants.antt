use Rattle.std.proofs.Common.{◌≡◌, length}
use Rattle.ring_server.proofs.door.take_seats.Given as goal

-- a seat for each door before this one
abbrev pub invariant-loop-number : goal.invariant-loop-number
invariant-loop-number g l = length l.seats.items ≡ l.number
