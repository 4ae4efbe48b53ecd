use Rattle.ring_service.proofs.Series.{any_moment, cuts, held_behind, holds_rest}
use Rattle.ring_service.proofs.laws.left_by_a_flusher.Goals as goal

pub returns-clause-held : goal.returns-clause-held
returns-clause-held g c = held_behind g.V.Device g.A.NodeLedger.member g.A.NodeLedger.opening

pub returns-clause-recovery : goal.returns-clause-recovery
returns-clause-recovery g c = λ device known held. holds_rest g.A.NodeLedger.member g.A.NodeLedger.opening (g.V.Device.disk device) known held

pub returns-clause-any_moment : goal.returns-clause-any_moment
returns-clause-any_moment g c =
    any_moment g.V.Device g.A.NodeLedger.member g.A.NodeLedger.opening g.met.V.Device.only_now

pub returns-clause-cut : goal.returns-clause-cut
returns-clause-cut g c = λ old new known held stopped.
    cuts g.V.Device g.A.NodeLedger.member g.A.NodeLedger.opening old new known (g.met.V.Device.counts_now new) held stopped
