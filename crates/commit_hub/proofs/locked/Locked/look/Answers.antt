use Rattle.std.proofs.Common.{rules}
use Rattle.commit_hub.proofs.Looks.{is_look}
use Rattle.commit_hub.proofs.locked.Locked.look.Goals as goal

pub returns-clause-lawful : goal.returns-clause-lawful
returns-clause-lawful g c = is_look c.args.self.now.is_wanted c.args.self.now.shared.desk _ _ _ c.args.self.now.of c.args.self.now.opening c.shown.ensures.known (search rules)
