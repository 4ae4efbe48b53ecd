use Rattle.std.proofs.Common.{rules, ◌≡◌, ◌≤◌, length, sym, ◌∙◌, arith}
use Rattle.gated_journal.specs.Unread.{head_at, header_at}
use Rattle.gated_journal.proofs.Head.{header_same, marked_there}
use Rattle.gated_journal.proofs.OnlyReads.{within, then}
use Rattle.gated_journal.proofs.Results.{on_value, on_err}
use Rattle.gated_journal.proofs.open.read_header.Goals as goal

long : (g : _) (c : goal.After-header_of g) → 17 ≤ length (g.D.Device.disk c.args.device.now).image
long g c = omega (arith, c.if-size-lt17.false, c.size.ensures)

-- the header of the first bytes is the image's
same : (g : _) (c : goal.After-header_of g) → head_at c.args.node c.args.n c.read_part.new.buf ≡ header_at c.args.node c.args.n (g.D.Device.disk c.args.device.now).image
same g c = header_same c.args.node c.args.n c.read_part.new.buf (g.D.Device.disk c.args.device.now).image c.in_default.ensures.part (search rules) (long g c)

pub returns-clause-header : goal.returns-clause-header
returns-clause-header g c = on_value c.header_of.result _ _ (λ found is. sym (same g c) ∙ is) c.header_of.ensures.header

pub returns-clause-marked : goal.returns-clause-marked
returns-clause-marked g c = on_value c.header_of.result _ _ (λ found marked. marked_there found.1 c.read_part.new.buf (g.D.Device.disk c.args.device.now).image c.in_default.ensures.part (search rules) (long g c) marked) c.header_of.ensures.marked

pub returns-clause-device : goal.returns-clause-device
returns-clause-device g c =
    let D = g.D.Device in
    let read = within D _ (length (D.disk c.args.device.now).image) c.args.device.now c.read_part.new.device c.read_part.result _ (omega (arith, long g c)) c.read_part.ensures.device in
    then D _ c.args.device.now c.read_part.new.device c.read_part.result _ c.header_of.result _ _ c.in_default.is
    (on_err c.header_of.result _ _ (λ e is. sym (same g c) ∙ is) c.header_of.ensures.refusal) read
