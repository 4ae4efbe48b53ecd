use Rattle.std.proofs.Common.{◌∙◌}
use Rattle.ring_service.proofs.Keys.{knows_each}
use Rattle.ring_service.proofs.settings.knows_all.Goals as goal

pub returns : goal.returns
returns c = c.knows_each.ensures ∙ knows_each c.args.table.now.entries
