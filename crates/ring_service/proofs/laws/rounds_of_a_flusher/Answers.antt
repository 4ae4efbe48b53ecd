use Rattle.std.proofs.Common.{[], ◌∷◌}
use Rattle.ring_service.proofs.Series.{all_inputs, device_joined, goes_on, known_joined, opens_again, splits, told}
use Rattle.ring_service.proofs.laws.rounds_of_a_flusher.Goals as goal

pub returns-clause-begins : goal.returns-clause-begins
returns-clause-begins g c = λ desk device is. splits desk (g.V.Device.disk device) is

pub returns-clause-told : goal.returns-clause-told
returns-clause-told g c = told g.V.Device g.A.NodeLedger.member g.A.NodeLedger.opening

pub returns-clause-goes_on : goal.returns-clause-goes_on
returns-clause-goes_on g c = goes_on g.V.Device g.A.NodeLedger.member g.A.NodeLedger.opening

pub returns-clause-device : goal.returns-clause-device
returns-clause-device g c = λ device rounds round. device_joined device rounds (round ∷ [])

pub returns-clause-known : goal.returns-clause-known
returns-clause-known g c = λ known rounds round. known_joined known rounds (round ∷ [])

pub returns-clause-inputs : goal.returns-clause-inputs
returns-clause-inputs g c = all_inputs

pub returns-clause-again : goal.returns-clause-again
returns-clause-again g c = opens_again g.A.NodeLedger.member
