use Rattle.std.proofs.Common.{sym}
use Rattle.gated_journal.proofs.AreaRest.{read_here}
use Rattle.gated_journal.proofs.journal.Journal.layout.Goals as goal

pub returns-clause-reading : goal.returns-clause-reading
returns-clause-reading g c = λ ready r all.
    let j = c.args.self.now in
    sym (read_here _ _ j.place r (j.settled ready) (g.met.D.Device.may_stay j.device) all).here.layout
