use Rattle.std.proofs.Common.{◌≡◌, ◌+◌, length}
use Rattle.std.specs.Prelude.{IsTrue}
use Rattle.ring_server.proofs.crew.join_all.Given as goal

-- a share of each thread so far, where there was room for all
abbrev pub invariant-loop-handle : goal.invariant-loop-handle
invariant-loop-handle g l = IsTrue l.are_back → length l.shares.items ≡ length l.fn.shares.items + length l.yielded
