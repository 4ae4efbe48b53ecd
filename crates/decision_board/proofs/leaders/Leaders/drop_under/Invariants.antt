use Rattle.std.proofs.Common.{◌≡◌}
use Rattle.std.specs.FinMap as map
use Rattle.decision_board.specs.Leaders.{without}
use Rattle.decision_board.proofs.leaders.Leaders.drop_under.Given as goal

-- without the leaders below the floor it is what it was without them
abbrev pub invariant-loop-key : goal.invariant-loop-key
invariant-loop-key l = without l.self l.group l.floor ≡ without l.fn.self l.group l.floor

abbrev pub decreases-loop-key : goal.decreases-loop-key
decreases-loop-key l = map.len l.self
