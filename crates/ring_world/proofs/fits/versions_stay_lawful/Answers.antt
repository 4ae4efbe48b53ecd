use Rattle.ring_world.proofs.Lawful.{base-formatted, lawful-formatted, lawful-launched_in, fresh-formatted}
use Rattle.ring_world.proofs.Served.{schedule_holds}
use Rattle.ring_world.proofs.fits.versions_stay_lawful.Goals as goal

pub returns-clause-new : goal.returns-clause-new
returns-clause-new c = fresh-formatted 1

pub returns-clause-base : goal.returns-clause-base
returns-clause-base c = base-formatted

pub returns-clause-opened : goal.returns-clause-opened
returns-clause-opened c = lawful-formatted

pub returns-clause-launched_in : goal.returns-clause-launched_in
returns-clause-launched_in c = lawful-launched_in

pub returns-clause-scheduled : goal.returns-clause-scheduled
returns-clause-scheduled c = λ start n capacity events schedule i. ((schedule_holds start n capacity events schedule).sound i).lawful
