use Rattle.std.proofs.Common.{sym, ◌∙◌}
use Rattle.groups_terms.proofs.Keeping.{get-floor}
use Rattle.groups_terms.proofs.floors.floor_of.Goals as goal

pub returns : goal.returns
returns c = c.copied.ensures ∙ (c.get.ensures.value ∙ sym (get-floor c.args.floors.now.entries c.args.group.now))
