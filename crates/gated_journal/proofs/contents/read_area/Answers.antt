use Rattle.gated_journal.proofs.Results.{on_value}
use Rattle.gated_journal.proofs.contents.read_area.Goals as goal

pub returns-then-chosen-lt-OLDEST_AREA-clause-begins : goal.returns-then-chosen-lt-OLDEST_AREA-clause-begins
returns-then-chosen-lt-OLDEST_AREA-clause-begins g c = on_value c.read_plainly.result _ _ (λ found begins. begins c.args.n) c.read_plainly.ensures.begins
