use Rattle.std.proofs.Common.{rules, ◌≡◌, ◌+◌, ◌-◌, length, take, drop, Ok, ap, arith, length-take}
use Rattle.disk_model.specs.Disk.{Disk}
use Rattle.gated_journal.specs.Pieces.{Pieces}
use Rattle.gated_journal.specs.declared.area_reader.Fed.TheVariants.{More, Done}
use Rattle.gated_journal.proofs.AreaPieces.{fed_next, fed_done, piece_damaged}
use Rattle.gated_journal.proofs.OnlyReads.{goes_on, ends}
use Rattle.gated_journal.proofs.feeding.feed_all.Goals as goal

pub feed_from-requires : goal.feed_from-requires
feed_from-requires g c =
    let inv = c.loop-at.invariant in
    let offset = ap (λ (p : Pieces). p.offset) inv.reader in
    let bytes = ap (λ (p : Pieces). length p.bytes) inv.reader in
    let size = ap (λ (d : Disk). length d.image) inv.device.kept in
    let piece = length-take c.min-there.result c.loop-at.buffer in
    record {
      next = omega (arith, offset, bytes, inv.from, length-take (c.loop-at.at - c.args.start) (drop c.args.start (g.D.Device.disk c.args.device.now).image));
      there = omega (arith, piece, c.min-there.ensures, c.loop-at-test.true, c.size-size.ensures, size);
      small = omega (arith, piece, c.min-there.ensures, c.loop-at-test.true, c.size-size.type_inv);
    }

pub loop-at-preserved : goal.loop-at-preserved
loop-at-preserved g c =
    let D = g.D.Device in
    let inv = c.loop-at.invariant in
    let at = c.loop-at.at in
    let there = c.min-there.result in
    let image = (D.disk c.args.device.now).image in
    let long : length (take there c.loop-at.buffer) ≡ there = search rules in
    let same = ap (λ (d : Disk). d.image) inv.device.kept in
    record {
      from = omega (arith, inv.from);
      to = omega (arith, c.min-there.ensures, c.loop-at-test.true);
      reader = fed_next c.args.layout c.args.n c.args.start image at there _ c.loop-at.reader c.feed_from.new.reader (Ok More) c.in-Ok-More.field-0 More inv.from inv.reader (λ i. take (long i) (drop at (same i))) c.in-Ok-More.field-0-is c.in-Ok-More.ensures.fed;
      device = goes_on D c.args.device.now c.loop-at.device c.feed_from.new.device at c.feed_from.result _ _ _ _ _ c.in-Ok-More.is inv.device c.feed_from.ensures.device;
    }

pub returns-in-Ok-Done-clause-fed : goal.returns-in-Ok-Done-clause-fed
returns-in-Ok-Done-clause-fed g c =
    let D = g.D.Device in
    let inv = c.loop-at.invariant in
    let at = c.loop-at.at in
    let there = c.min-there.result in
    let image = (D.disk c.args.device.now).image in
    let long : length (take there c.loop-at.buffer) ≡ there = search rules in
    let same = ap (λ (d : Disk). d.image) inv.device.kept in
    let now = fed_next c.args.layout c.args.n c.args.start image at there _ c.loop-at.reader c.feed_from.new.reader (Ok More) c.in-Ok-Done.field-0 Done inv.from inv.reader (λ i. take (long i) (drop at (same i))) c.in-Ok-Done.field-0-is c.in-Ok-Done.ensures.fed in
    fed_done c.args.layout c.args.n c.args.start image (at + there) c.feed_from.new.reader (omega (arith, inv.from)) (omega (arith, c.min-there.ensures, c.loop-at-test.true, c.size-size.ensures)) now

pub returns-in-Err-clause-device : goal.returns-in-Err-clause-device
returns-in-Err-clause-device g c =
    let D = g.D.Device in
    let inv = c.loop-at.invariant in
    let at = c.loop-at.at in
    let there = c.min-there.result in
    let image = (D.disk c.args.device.now).image in
    let long : length (take there c.loop-at.buffer) ≡ there = search rules in
    let same = ap (λ (d : Disk). d.image) inv.device.kept in
    ends D c.args.device.now c.loop-at.device c.feed_from.new.device at c.feed_from.result c.in-Err.refusal _ _ _ c.in-Err.is
    (λ told. piece_damaged c.args.layout c.args.n c.args.start image at there _ c.loop-at.reader (Ok More) c.in-Err.refusal inv.from inv.reader (λ i. take (long i) (drop at (same i))) told) inv.device c.feed_from.ensures.device
