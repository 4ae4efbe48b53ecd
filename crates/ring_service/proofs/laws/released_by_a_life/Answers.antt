use Rattle.ring_service.proofs.Leaders.{earlier_released, is_later, is_next, round_released, window_released}
use Rattle.ring_service.proofs.laws.released_by_a_life.Goals as goal

pub returns-clause-window : goal.returns-clause-window
returns-clause-window c = window_released

pub returns-clause-round : goal.returns-clause-round
returns-clause-round c = round_released

pub returns-clause-earlier : goal.returns-clause-earlier
returns-clause-earlier c = earlier_released

pub returns-clause-goes_on : goal.returns-clause-goes_on
returns-clause-goes_on c = is_later

pub returns-clause-again : goal.returns-clause-again
returns-clause-again c = is_next
