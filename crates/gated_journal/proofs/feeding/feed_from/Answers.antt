use Rattle.std.proofs.Common.{rules, ◌≡◌, List, ℕ, length, take, drop, ◌∙◌, ap, subst, arith}
use Rattle.disk_model.proofs.Images.{part_within}
use Rattle.gated_journal.specs.OnlyReads.{MemoryOr}
use Rattle.gated_journal.specs.Pieces.{IsPieceDamaged}
use Rattle.gated_journal.proofs.AreaPieces.{fed_now}
use Rattle.gated_journal.proofs.OnlyReads.{within, then}
use Rattle.gated_journal.proofs.Results.{on_err}
use Rattle.gated_journal.proofs.feeding.feed_from.Goals as goal

-- the bytes that were read are the image's
read : (g : _) (c : goal.After-feed g) → c.read_part.new.buf ≡ take (length c.args.piece.now) (drop c.args.at (g.D.Device.disk c.args.device.now).image)
read g c =
    let image = (g.D.Device.disk c.args.device.now).image in
    let piece = c.read_part.new.buf in
    let long : length piece ≡ length c.args.piece.now = search rules in
    part_within c.args.at piece image c.in_default.ensures.part (omega (arith, long, c.requires.there)) ∙ ap (λ (k : ℕ). take k (drop c.args.at image)) long

pub returns-clause-fed : goal.returns-clause-fed
returns-clause-fed g c = fed_now c.feed.result c.args.reader.now c.feed.new.self _ _ (read g c) c.feed.ensures.fed

pub returns-clause-device : goal.returns-clause-device
returns-clause-device g c =
    let D = g.D.Device in
    let image = (D.disk c.args.device.now).image in
    let read_on = within D _ (length image) c.args.device.now c.read_part.new.device c.read_part.result _ c.requires.there c.read_part.ensures.device in
    then D _ c.args.device.now c.read_part.new.device c.read_part.result _ c.feed.result _ _ c.in_default.is
    (on_err c.feed.result _ _ (λ e told. subst (λ (l : List ℕ). MemoryOr (IsPieceDamaged c.args.reader.now l) e) (read g c) told) c.feed.ensures.damaged) read_on
