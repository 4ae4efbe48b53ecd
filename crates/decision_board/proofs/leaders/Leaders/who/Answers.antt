use Rattle.std.proofs.Common.{ap, ◌∙◌}
use Rattle.std.specs.FinMap as map
use Rattle.decision_board.proofs.Maps.{get_is}
use Rattle.decision_board.proofs.leaders.Leaders.who.Goals as goal

pub returns : goal.returns
returns c = c.copied.ensures ∙ (c.get.ensures.value ∙ (get_is c.self.inside.by_key c.args.key.now ∙ ap (λ m. map.get m c.args.key.now) c.self.view_is))
