use Rattle.std.proofs.Common.{◌≡◌, ◌+◌, length}
use Rattle.ring_server.proofs.crew.start_doors.Given as goal

-- a thread for each seat so far
abbrev pub invariant-loop-seat : goal.invariant-loop-seat
invariant-loop-seat g l = length l.handles.items ≡ length l.fn.handles.items + length l.yielded
