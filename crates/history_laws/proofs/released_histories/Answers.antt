use Rattle.history_laws.proofs.Handed.{links, replied_in, latest_in, shown_in}
use Rattle.history_laws.proofs.released_histories.Goals as goal

pub returns-clause-linked : goal.returns-clause-linked
returns-clause-linked c = links

pub returns-clause-replied : goal.returns-clause-replied
returns-clause-replied c = replied_in

pub returns-clause-latest : goal.returns-clause-latest
returns-clause-latest c = latest_in

pub returns-clause-shown : goal.returns-clause-shown
returns-clause-shown c = shown_in
