use Rattle.std.proofs.Common.{ap, ◌∙◌}
use Rattle.std.specs.Cmp.Lexicographic.{nat_list_cmp_total}
use Rattle.std.specs.FinMap as map
use Rattle.decision_board.proofs.Maps.{put_in}
use Rattle.decision_board.proofs.floors.Floors.put.Goals as goal

pub returns-clause-ok : goal.returns-clause-ok
returns-clause-ok c =
    put_in nat_list_cmp_total (map.slice_cmp-IsAntisymmetric map.nat_cmp-IsAntisymmetric) c.self.inside.by_group c.insert.new.self c.args.group c.args.floor c.in_ok-insert.ensures.updates.0
    ∙ ap (λ m. map.insert m c.args.group c.args.floor) c.self.view_is
