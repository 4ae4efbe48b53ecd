use Rattle.std.proofs.Common.{rules}
use Rattle.commit_hub.proofs.waking.Bells.wait_for_work.Goals as goal

pub returns : goal.returns
returns g c = search rules
