use Rattle.std.proofs.Common.{◌+◌}
use Rattle.ring_start.specs.Checks.{AreWhole}
use Rattle.ring_start.specs.Fits.{found_as}
use Rattle.ring_start.proofs.check.first_dropped.Given as goal

-- no node before this place begins behind a checkpoint
abbrev pub invariant-loop-place : goal.invariant-loop-place
invariant-loop-place g l = AreWhole found_as l.ring (l.place + 1)
