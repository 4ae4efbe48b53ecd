use Rattle.std.proofs.Common.{sym, ap, subst}
use Rattle.ring_records.specs.Snapshot.{IsSound}
use Rattle.gated_journal.specs.Reading.{Reading}
use Rattle.service_tests.proofs.appenders.other_opening.Goals as goal

-- the summary of no inputs is sound
pub returns : goal.returns
returns g c = subst (IsSound 3) (sym (ap (λ (r : Reading). r.base) c.fresh-opening.ensures)) (c.summary_sound.ensures.empty 3)
