use Rattle.std.proofs.Common.{◌∙◌}
use Rattle.groups_terms.proofs.Keeping.{len-floored}
use Rattle.groups_terms.proofs.floors.count_of.Goals as goal

pub returns : goal.returns
returns c = c.len.ensures.len ∙ len-floored c.args.floors.now.entries c.len.ensures.ordered
