use Rattle.ring_records.proofs.FloorsRise.{floor-rises, floor-at_most, latest-never_down}
use Rattle.ring_records.proofs.laws.floors_rise.Goals as goal

pub returns-clause-rises : goal.returns-clause-rises
returns-clause-rises c = λ me n h x group a. floor-rises me n h x a group

pub returns-clause-at_most : goal.returns-clause-at_most
returns-clause-at_most c = λ me n h group each. floor-at_most me n h each group

pub returns-clause-never_down : goal.returns-clause-never_down
returns-clause-never_down c = λ me n h x group a. latest-never_down me n h x a group
