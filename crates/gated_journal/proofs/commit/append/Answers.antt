use Rattle.std.proofs.Common.{◌+◌, length}
use Rattle.disk_model.proofs.Changed.{torn_changes}
use Rattle.disk_model.proofs.Moments.{weaken, joins}
use Rattle.gated_journal.specs.AreaWritten.{Appends}
use Rattle.gated_journal.proofs.Behind.{first_moment, second_moment, opened}
use Rattle.gated_journal.proofs.Results.{on_ok}
use Rattle.gated_journal.proofs.commit.append.Goals as goal

pub returns-in_err-write_through-clause-any_moment : goal.returns-in_err-write_through-clause-any_moment
returns-in_err-write_through-clause-any_moment g c = λ layout offset inputs batch is reads frame.
    let old = g.D.Device.disk c.args.device.now in
    let n = length c.args.bytes.now in
    weaken g.D.Device.clock g.D.Device.left_since c.args.device.now c.write_through.new.device _ (Appends layout offset inputs batch c.args.gate_at n old.image)
    (λ image torn. first_moment offset old.image image inputs batch c.args.gate_at n reads (torn_changes (c.args.gate_at + 1) n old image is torn)) c.write_through.ensures.any_moment

pub returns-clause-any_moment : goal.returns-clause-any_moment
returns-clause-any_moment g c = λ layout offset inputs batch is reads frame.
    let device = c.args.device.now in
    let mid = c.write_through.new.device in
    let old = g.D.Device.disk device in
    let staged = g.D.Device.disk mid in
    let gate_at = c.args.gate_at in
    let bytes = c.args.bytes.now in
    let P = Appends layout offset inputs batch gate_at (length bytes) old.image in
    let first = weaken g.D.Device.clock g.D.Device.left_since device mid _ P
    (λ image torn. first_moment offset old.image image inputs batch gate_at (length bytes) reads (torn_changes (gate_at + 1) (length bytes) old image is torn)) c.write_through.ensures.any_moment in
    let second = weaken g.D.Device.clock g.D.Device.left_since mid c.write_through-2.new.device _ P
    (λ image torn. second_moment offset old.image staged.image image bytes inputs batch gate_at reads frame c.in_ok-write_through.ensures.written (torn_changes gate_at 1 staged image c.in_ok-write_through.ensures.synced torn)) c.write_through-2.ensures.any_moment in
    joins g.D.Device.clock g.D.Device.left_since device mid c.write_through-2.new.device P first second

pub returns-clause-done : goal.returns-clause-done
returns-clause-done g c =
    let old = g.D.Device.disk c.args.device.now in
    let staged = g.D.Device.disk c.write_through.new.device in
    let new = g.D.Device.disk c.write_through-2.new.device in
    on_ok c.write_through-2.result _ _ (λ put layout offset inputs batch is reads frame.
    opened offset old.image staged.image new.image c.args.bytes.now inputs batch c.args.gate_at reads frame c.in_ok-write_through.ensures.written put) c.write_through-2.ensures.written
