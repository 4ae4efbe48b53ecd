use Rattle.std.proofs.Common.{arith}
use Rattle.gated_journal.proofs.AreaRest.{read_here}
use Rattle.gated_journal.proofs.journal.Journal.room.Goals as goal

pub returns-clause-reading : goal.returns-clause-reading
returns-clause-reading g c = λ ready r all.
    let j = c.args.self.now in
    let sum = (read_here _ _ j.place r (j.settled ready) (g.met.D.Device.may_stay j.device) all).here.used in
    omega (arith, c.saturating_sub.ensures, c.from.ensures, sum)
