use Rattle.std.proofs.Common.{List, subst}
use Rattle.gated_journal.specs.Unread.{IsNoJournal}
use Rattle.gated_journal.proofs.OnlyReads.{settled_reads}
use Rattle.gated_journal.proofs.open.open.Goals as goal

pub returns-in-Ok-clause-device : goal.returns-in-Ok-clause-device
returns-in-Ok-clause-device g c =
    settled_reads g.D.Device c.args.device.now c.settle.new.device c.read_journal.new.device c.settle.result _ c.read_journal.result _ _ _ c.in-Ok.is
    (λ e. subst (λ (l : List _). IsNoJournal c.args.node c.args.n l e) c.settle.ensures.device.image) c.settle.ensures.narrows c.settle.ensures.device c.read_journal.ensures.device
