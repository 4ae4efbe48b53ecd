use Rattle.std.proofs.Common.{sym, ap, subst}
use Rattle.ring_records.specs.Snapshot.{IsSound}
use Rattle.ring_records.proofs.Sound.{sound-empty}
use Rattle.gated_journal.specs.Reading.{Reading}
use Rattle.node_tests.proofs.store.desk.opening_of.Goals as goal

pub returns : goal.returns
returns g c = subst (IsSound 3) (sym (ap (λ (r : Reading). r.base) c.fresh-opening.ensures)) (sound-empty 3)
