use Rattle.ring_records.proofs.States.{base-fresh, lawful-opened, lawful-asked, lawful-launched, lawful-launched_all, lawful-landed, lawful-left}
use Rattle.ring_records.proofs.laws.states_stay_lawful.Goals as goal

pub returns-clause-new : goal.returns-clause-new
returns-clause-new c = base-fresh

pub returns-clause-opened : goal.returns-clause-opened
returns-clause-opened c = lawful-opened

pub returns-clause-asked : goal.returns-clause-asked
returns-clause-asked c = lawful-asked

pub returns-clause-launched : goal.returns-clause-launched
returns-clause-launched c = lawful-launched

pub returns-clause-launched_all : goal.returns-clause-launched_all
returns-clause-launched_all c = lawful-launched_all

pub returns-clause-landed : goal.returns-clause-landed
returns-clause-landed c = lawful-landed

pub returns-clause-left : goal.returns-clause-left
returns-clause-left c = lawful-left
