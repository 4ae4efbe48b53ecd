use Rattle.std.proofs.Common.{◌≡◌, length}
use Rattle.ring_start.specs.Fits.{found_as, IsInOrder}
use Rattle.ring_start.proofs.opening.find_nodes.Given as goal

-- so many were opened, in order
abbrev pub invariant-loop-place : goal.invariant-loop-place
invariant-loop-place g l = record { order : IsInOrder found_as l.nodes.items; count : length l.nodes.items ≡ l.place }
