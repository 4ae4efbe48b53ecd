use Rattle.ring_service.proofs.Readers.{first_seen, told_at_first, told_since}
use Rattle.ring_service.proofs.laws.told_to_a_board.Goals as goal

pub returns-clause-opens : goal.returns-clause-opens
returns-clause-opens g c = told_at_first

pub returns-clause-goes_on : goal.returns-clause-goes_on
returns-clause-goes_on g c = told_since g.V.Device

pub returns-clause-says : goal.returns-clause-says
returns-clause-says g c = first_seen
