use Rattle.std.proofs.Common.{ap, ◌∙◌}
use Rattle.std.specs.FinMap as fin
use Rattle.node_core.specs.Core.{CoreView}
use Rattle.group_commit.specs.Desk.{DeskKept, known_all}
use Rattle.group_commit.proofs.desk.Desk.floor_count.Goals as goal

pub returns : goal.returns
returns c = c.floor_count.ensures ∙ (ap (λ (v : CoreView). fin.len v.known.floors) c.self.invariant.knows ∙ ap (λ (v : DeskKept). fin.len (known_all v).floors) c.self.view_is)
