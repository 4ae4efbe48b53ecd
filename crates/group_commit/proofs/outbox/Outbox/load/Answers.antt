use Rattle.std.proofs.Common.{rules, refl}
use Rattle.group_commit.proofs.Opening.{when_err}
use Rattle.group_commit.proofs.outbox.Outbox.load.Goals as goal

pub returns-in_err-reserve-clause-err : goal.returns-in_err-reserve-clause-err
returns-in_err-reserve-clause-err c = when_err c.from_residual.result (record { released = c.reserve.ensures.keeps; waiting = refl; blank = λ blank. blank })

pub returns-in_err-self-clause-err : goal.returns-in_err-self-clause-err
returns-in_err-self-clause-err c = when_err c.from_residual-in_err-self.result (record { released = c.reserve.ensures.keeps; waiting = refl; blank = λ blank. blank })

pub returns-clause-loaded : goal.returns-clause-loaded
returns-clause-loaded c =
    record { released = c.reserve.ensures.keeps; waiting = refl; room = search rules; blank = search rules; ready = c.in_ok-self.ensures.room; count = c.in_ok-self.ensures.count }
