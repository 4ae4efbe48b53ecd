use Rattle.std.proofs.Common.{rules}
use Rattle.ring_server.proofs.node.close.Goals as goal

-- each place of the hub is here
pub unreachable-requires : goal.unreachable-requires
unreachable-requires g c = let settles = c.in-Err.ensures.whole (search rules) in cc
