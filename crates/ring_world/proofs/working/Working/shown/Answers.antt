use Rattle.std.proofs.Common.{◌∙◌}
use Rattle.ring_node.proofs.Shown.{shows_all}
use Rattle.ring_world.proofs.working.Working.shown.Goals as goal

pub returns : goal.returns
returns c = c.shown.ensures.value ∙ shows_all _ _ _ c.desk.result.now c.desk.ensures.shows c.shown.ensures.known
