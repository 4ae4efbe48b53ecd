use Rattle.std.proofs.Common.{sym}
use Rattle.gated_journal.specs.Feeding.{IsContentless}
use Rattle.gated_journal.proofs.AreaPieces.{area_at, area_damaged}
use Rattle.gated_journal.proofs.OnlyReads.{then}
use Rattle.gated_journal.proofs.Results.{not_both}
use Rattle.gated_journal.proofs.contents.read_contents.Goals as goal

pub returns-in-Ok-finish-clause-area : goal.returns-in-Ok-finish-clause-area
returns-in-Ok-finish-clause-area g c =
    let f = c.in-Ok-finish in
    area_at c.args.layout c.args.n c.args.start (g.D.Device.disk c.args.device.now).image c.in-Ok.reader c.in-Ok.ensures.fed f.base f.inputs.items f.gate_at f.ensures.reads

damaged : (g : _) (c : goal.In-Err-finish g) → IsContentless c.args.layout c.args.n c.args.start (g.D.Device.disk c.args.device.now).image c.in-Err-finish.refusal
damaged g c =
    let e = c.in-Err-finish in
    area_damaged c.args.layout c.args.n c.args.start (g.D.Device.disk c.args.device.now).image c.in-Ok.reader c.in-Ok.ensures.fed e.refusal (λ done. not_both (sym (e.ensures.done done))) e.ensures.broken

pub returns-in-Err-finish-clause-device : goal.returns-in-Err-finish-clause-device
returns-in-Err-finish-clause-device g c =
    let D = g.D.Device in
    then D _ c.args.device.now c.feed_all.new.device c.feed_all.result _ _ _ _ c.in-Ok.is (damaged g c) c.feed_all.ensures.device
