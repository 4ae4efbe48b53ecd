use Rattle.std.proofs.Common.{inr, arith}
use Rattle.gated_journal.proofs.AreaFound.{area_base, area_frames, contentless, goes_past}
use Rattle.gated_journal.proofs.OnlyReads.{refused, then}
use Rattle.gated_journal.proofs.contents.read_in_area.Goals as goal

pub read_contents-requires : goal.read_contents-requires
read_contents-requires g c = omega (arith, c.requires.used.offset, c.requires.used.there)

pub returns-in-Err-clause-device : goal.returns-in-Err-clause-device
returns-in-Err-clause-device g c =
    let D = g.D.Device in
    refused D _ c.args.device.now c.read_contents.new.device c.read_contents.result c.in-Err.refusal _ _ c.in-Err.is
    (λ none. contentless c.args.n c.args.capacity (D.disk c.args.device.now).image c.args.chosen.now c.requires.used c.in-Err.refusal none) c.read_contents.ensures.device

pub returns-then-bound-gate_at-clause-device : goal.returns-then-bound-gate_at-clause-device
returns-then-bound-gate_at-clause-device g c =
    let D = g.D.Device in
    let f = c.in-Ok.contents in
    then D _ c.args.device.now c.read_contents.new.device c.read_contents.result _ _ _ _ c.in-Ok.is
    (inr (goes_past c.args.n c.args.capacity (D.disk c.args.device.now).image c.args.chosen.now c.requires.used f.base f.inputs.items f.gate_at c.in-Ok.ensures.area (omega (arith, c.if-bound-gate_at.true, c.from.ensures)))) c.read_contents.ensures.device

pub returns-else-bound-gate_at-clause-base : goal.returns-else-bound-gate_at-clause-base
returns-else-bound-gate_at-clause-base g c =
    let f = c.in-Ok.contents in
    area_base c.args.n c.args.capacity (g.D.Device.disk c.args.device.now).image c.args.chosen.now c.requires.used f.base f.inputs.items f.gate_at c.in-Ok.ensures.area

pub returns-else-bound-gate_at-clause-frames : goal.returns-else-bound-gate_at-clause-frames
returns-else-bound-gate_at-clause-frames g c =
    let f = c.in-Ok.contents in
    area_frames c.args.n c.args.capacity (g.D.Device.disk c.args.device.now).image c.args.chosen.now c.requires.used f.base f.inputs.items f.gate_at c.in-Ok.ensures.area
