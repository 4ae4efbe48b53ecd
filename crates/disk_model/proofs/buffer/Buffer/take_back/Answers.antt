use Rattle.std.proofs.Common.{◌≤◌, ℕ, List, length, ap, ◌∙◌, arith, length-take}
use Rattle.disk_model.specs.Synced.{with_image}
use Rattle.disk_model.specs.Buffer.{disk_of}
use Rattle.disk_model.specs.Old.{old_byte}
use Rattle.disk_model.proofs.Images.{before_at, taken_back}
use Rattle.disk_model.proofs.buffer.Buffer.take_back.Goals as goal

pub returns-clause-disk : goal.returns-clause-disk
returns-clause-disk c =
    let buffer = c.args.self.now in
    let shadow = c.args.shadow.now in
    let fits : length buffer.history.stable ≤ length c.put_back.new.bytes.items =
    omega (arith, buffer.torn.no_shorter, length-take buffer.size buffer.bytes.items, c.put_back.ensures.len, buffer.fits) in
    ap (λ (image : List ℕ). with_image (disk_of buffer) image)
    (taken_back buffer.history.stable c.put_back.new.bytes.items shadow.size c.requires.size fits
    (λ i lt. c.put_back.ensures.value i (omega (arith, lt, c.put_back.ensures.len))
    ∙ (ap (λ (stamps : List ℕ). old_byte stamps shadow.stretch c.deref-2.result.now buffer.bytes.items i) c.deref.ensures.value
    ∙ (ap (λ (old : List ℕ). old_byte shadow.stamps.items shadow.stretch old buffer.bytes.items i) c.deref-2.ensures.value
    ∙ (before_at shadow.stamps.items shadow.stretch shadow.bytes.items buffer.size buffer.bytes.items buffer.blank i ∙ c.requires.before i)))))
