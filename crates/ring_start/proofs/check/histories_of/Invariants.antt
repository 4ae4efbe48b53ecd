use Rattle.std.proofs.Common.{◌≡◌, take}
use Rattle.ring_audit.specs.Placement.{lists}
use Rattle.ring_start.specs.Checks.{histories}
use Rattle.ring_start.specs.Fits.{found_as}
use Rattle.ring_start.proofs.check.histories_of.Given as goal

-- those of the nodes before this one
abbrev pub invariant-loop-node : goal.invariant-loop-node
invariant-loop-node g l = lists l.held.items ≡ histories found_as (take l.node-index l.ring)
