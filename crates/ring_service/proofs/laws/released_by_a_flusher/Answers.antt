use Rattle.ring_service.proofs.Resting.{rests_behind, rests_cut}
use Rattle.ring_service.proofs.laws.released_by_a_flusher.Goals as goal

pub returns-clause-rounds : goal.returns-clause-rounds
returns-clause-rounds g c = rests_behind g.V.Device g.A.NodeLedger.member g.A.NodeLedger.opening g.met.V.Device.only_now

pub returns-clause-cut : goal.returns-clause-cut
returns-clause-cut g c = rests_cut g.V.Device g.A.NodeLedger.member g.A.NodeLedger.opening
