use Rattle.groups_terms.proofs.Keeping.{insert-floor}
use Rattle.groups_terms.proofs.floors.put_floor.Goals as goal

pub returns-clause-ok : goal.returns-clause-ok
returns-clause-ok c = insert-floor c.args.floors.now.entries c.insert.new.self.entries c.args.group c.args.floor c.in_ok-insert.ensures.updates.0
