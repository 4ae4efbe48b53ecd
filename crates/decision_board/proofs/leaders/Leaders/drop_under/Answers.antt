use Rattle.std.proofs.Common.{sym, ◌∙◌, ap}
use Rattle.decision_board.proofs.Maps.{fewer, without_one, without_none}
use Rattle.decision_board.specs.Leaders.{LeaderMap, without}
use Rattle.std.specs.FinMap as map
use Rattle.std.proofs.Common.{subst, ◌<◌}
use Rattle.decision_board.proofs.leaders.Leaders.drop_under.Goals as goal

pub loop-key-smaller : goal.loop-key-smaller
loop-key-smaller c = subst (λ (m : LeaderMap). map.len m < map.len c.loop-key.self) (sym c.remove.ensures) (fewer c.loop-key.self c.in-Some.key c.in-Some.ensures.2)

pub loop-key-preserved : goal.loop-key-preserved
loop-key-preserved c =
    let group = c.args.group.now in
    ap (λ (m : LeaderMap). without m group c.args.floor) c.remove.ensures
    ∙ (without_one c.loop-key.self c.in-Some.key group c.args.floor c.in-Some.ensures.0 c.in-Some.ensures.1 ∙ c.loop-key.invariant)

pub returns : goal.returns
returns c = without_none c.loop-key.self c.args.group.now c.args.floor c.in_default.ensures ∙ c.loop-key.invariant
