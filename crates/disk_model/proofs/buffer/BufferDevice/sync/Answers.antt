use Rattle.std.proofs.Common.{ap}
use Rattle.disk_model.specs.Buffer.{disk_of}
use Rattle.disk_model.specs.declared.history.History.{History}
use Rattle.disk_model.proofs.Moments.{elapses_sync}
use Rattle.disk_model.proofs.buffer.BufferDevice.sync.Goals as goal

pub returns-clause-time : goal.returns-clause-time
returns-clause-time c =
    elapses_sync c.args.self.now.history.past c.with_sync-self.result.past (disk_of c.args.self.now) _ (ap (λ (h : History). h.past) c.with_sync-self.ensures)
