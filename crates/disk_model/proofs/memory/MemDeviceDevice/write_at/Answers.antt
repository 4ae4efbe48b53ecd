use Rattle.std.proofs.Common.{◌≡◌, ◌≤◌, ◌+◌, ◌-◌, ℕ, min, List, length, ap, ◌∙◌, sym, refl, length-take, arith}
use Rattle.disk_model.specs.Disk.{Reach}
use Rattle.disk_model.specs.Buffer as buffer
use Rattle.disk_model.specs.Shadow.{is_written}
use Rattle.disk_model.proofs.Shadows.{clean_next, marked_next, before_next}
use Rattle.disk_model.proofs.memory.MemDeviceDevice.write_at.Goals as goal

pub invariant_of-self : goal.invariant_of-self
invariant_of-self c =
    let device = c.args.self.now in
    let shadow = device.shadow in
    let after = c.note.new.self in
    let held = c.write_at.new.self in
    let limit = buffer.limit_of device.held in
    let same_limit : buffer.limit_of held ≡ limit = ap (λ (r : Reach). r.limit) c.write_at.ensures.reach.same in
    let n = length c.args.bytes.now in
    let was = buffer.disk_of device.held in
    let now = buffer.disk_of held in
    let at = c.min-from.result in
    let end = c.min-at.result + c.min.result in
    let at_is : at ≡ min (min c.args.off limit) (length was.image) = omega (arith, c.min-from.ensures, c.min-at.ensures, c.limit-limit.ensures, c.size.ensures) in
    let end_is : end ≡ min c.args.off limit + min n (limit - min c.args.off limit) = omega (arith, c.min-at.ensures, c.min.ensures, c.limit-limit.ensures) in
    let fits : length now.image ≤ limit = omega (arith, length-take held.size held.bytes.items, held.fits, same_limit) in
    record {
      same = c.note.ensures.limit ∙ (device.same ∙ sym same_limit);
      end = c.note.ensures.size ∙ (device.end ∙ sym (ap (λ (stable : List ℕ). length stable) c.write_at.ensures.disk.stable));
      clean = clean_next c.args.off n limit (length was.image) at end at_is end_is was now c.write_at.ensures.disk refl
          (is_written shadow) (is_written after) c.note.ensures.outside device.held.torn.no_shorter device.clean;
      marked = marked_next c.args.off n limit (length was.image) at end at_is end_is was now c.write_at.ensures.disk refl
          (is_written shadow) (is_written after) c.note.ensures.outside fits c.write_at.ensures.end device.marked c.note.ensures.inside;
      before = before_next c.args.off n limit (length was.image) at end at_is end_is shadow.stamps.items
          shadow.bytes.items shadow.stretch after.stamps.items after.bytes.items after.stretch c.memory.result.now
          was.image now.image device.held.history.stable held.history.stable
          c.memory.ensures.value c.note.ensures.inside c.note.ensures.kept c.write_at.ensures.elsewhere device.before c.write_at.ensures.disk.stable;
    }
