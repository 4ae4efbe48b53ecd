use Rattle.std.proofs.Common.{◌++◌, [], ◌∷◌, length}
use Rattle.disk_model.specs.Disk.{IsTorn}
use Rattle.disk_model.proofs.Ranges.{after_sync, after_write}
use Rattle.disk_model.proofs.Moments.{writes, goes_on}
use Rattle.disk_model.proofs.through.write_through.Goals as goal

pub returns-in_err-write_at-clause-any_moment : goal.returns-in_err-write_at-clause-any_moment
returns-in_err-write_at-clause-any_moment g c =
    let device = c.args.device.now in
    let written = c.write_at.new.self in
    writes g.D.Device.clock g.D.Device.left_since device written (g.D.Device.disk device) (g.D.Device.disk written) c.args.off (length c.args.bytes.now)
    (g.met.D.Device.only_now device) c.write_at.ensures.disk c.write_at.ensures.time

pub returns-clause-any_moment : goal.returns-clause-any_moment
returns-clause-any_moment g c =
    let device = c.args.device.now in
    let written = c.write_at.new.self in
    let before = g.D.Device.disk device in
    let after = g.D.Device.disk written in
    let n = length c.args.bytes.now in
    let so_far = writes g.D.Device.clock g.D.Device.left_since device written before after c.args.off n (g.met.D.Device.only_now device) c.write_at.ensures.disk c.write_at.ensures.time in
    goes_on g.D.Device.clock g.D.Device.left_since device written c.sync.new.self
    (IsTorn before.stable (before.ranges ++ (c.args.off, n) ∷ [])) (g.D.Device.disk c.sync.new.self) so_far c.sync.ensures.time
    (λ image left. after_write c.args.off n before after c.write_at.ensures.disk image
    (after_sync c.sync.result after (g.D.Device.disk c.sync.new.self) c.sync.ensures.synced c.sync.ensures.failed (g.met.D.Device.may_stay written) image left))
