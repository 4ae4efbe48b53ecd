use Rattle.std.proofs.Common.{ap, ◌∙◌}
use Rattle.std.specs.Cmp.Lexicographic.{nat_list_cmp_total}
use Rattle.std.specs.FinMap as map
use Rattle.decision_board.proofs.Maps.{get_in}
use Rattle.decision_board.proofs.floors.Floors.floor.Goals as goal

pub returns : goal.returns
returns c = c.copied.ensures ∙ (c.get.ensures.value ∙ (get_in nat_list_cmp_total c.self.inside.by_group c.args.group.now ∙ ap (λ m. map.get m c.args.group.now) c.self.view_is))
