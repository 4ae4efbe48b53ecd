use Rattle.std.proofs.Common.{rules, ◌≡◌, ◌+◌, ◌-◌, ◌≤◌, inr, ℕ, List, length, take, drop, Ok, refl, sym, ◌∙◌, ap, subst, arith, length-take, length-drop}
use Rattle.std.proofs.lemmas.List.{take_all}
use Rattle.disk_model.specs.Disk.{Disk}
use Rattle.ring_records.specs.declared.refusal.Refusal.TheVariants as refused
use Rattle.gated_journal.specs.Damage.{IsBroken}
use Rattle.gated_journal.specs.Found.{IsClosed, IsWaiting}
use Rattle.gated_journal.specs.Listed.{IsListed, IsStuck}
use Rattle.gated_journal.specs.OnlyReads.{NoCause}
use Rattle.gated_journal.specs.Pieces.{IsNextFront}
use Rattle.gated_journal.specs.declared.found.Stage.{Stage}
use Rattle.gated_journal.proofs.FramesAlone.{listed_at, list_read, list_stuck, list_ends}
use Rattle.gated_journal.proofs.OnlyReads.{goes_on, then}
use Rattle.gated_journal.proofs.listed.read_list.Goals as goal

pub returns-in-Done-clause-reads : goal.returns-in-Done-clause-reads
returns-in-Done-clause-reads g c =
    let inv = c.loop-at.invariant in
    let start = c.args.start in
    let at = c.loop-at.at in
    let size = c.in-Ok.next.1 in
    let image = (g.D.Device.disk c.args.device.now).image in
    let same = ap (λ (d : Disk). d.image) inv.device.kept in
    let new = c.list_next.new.inputs.items in
    let rest = c.list_next.new.rest.items in
    let there = c.min-there.result in
    let long : length (take there c.loop-at.buffer) ≡ there = search rules in
    let n = length c.loop-at.rest.items + length (take there c.loop-at.buffer) - size in
    let listed = listed_at 1 start at size image _ c.in-Ok.next.0 c.loop-at.inputs.items new rest same inv.from inv.lists c.in-Ok.ensures.lists in
    let done = subst (λ (s : Stage). IsListed 1 s (take (at + size - start) (drop start image)) new rest) c.in-Done.is listed in
    list_read 1 start (at + size) image (omega (arith, inv.from)) (omega (arith, c.in-Ok.ensures.size, long, c.min-there.ensures, c.loop-at-test.true, c.len.ensures, c.len-in-loop-at.ensures, c.size-size.ensures, inv.to)) new n done.0
    (subst IsClosed (c.in-Ok.ensures.rest ∙ ap (λ (l : List ℕ). take n (drop (at + size) l)) same) done.1)

-- what is no frame stands behind those that were taken
broken : (g : _) (c : goal.After-drop-inputs-in-Damaged g) → IsBroken 1 c.args.start (g.D.Device.disk c.args.device.now).image (refused.Damaged c.in-Damaged.gate)
broken g c =
    let inv = c.loop-at.invariant in
    let start = c.args.start in
    let at = c.loop-at.at in
    let size = c.in-Ok.next.1 in
    let image = (g.D.Device.disk c.args.device.now).image in
    let same = ap (λ (d : Disk). d.image) inv.device.kept in
    let new = c.list_next.new.inputs.items in
    let rest = c.list_next.new.rest.items in
    let there = c.min-there.result in
    let long : length (take there c.loop-at.buffer) ≡ there = search rules in
    let n = length c.loop-at.rest.items + length (take there c.loop-at.buffer) - size in
    let listed = listed_at 1 start at size image _ c.in-Ok.next.0 c.loop-at.inputs.items new rest same inv.from inv.lists c.in-Ok.ensures.lists in
    let bad = subst (λ (s : Stage). IsListed 1 s (take (at + size - start) (drop start image)) new rest) c.in-Damaged.is listed in
    record {
      gate_at = at + size;
      is = ap refused.Damaged (c.in-Ok.ensures.damaged c.in-Damaged.gate c.in-Damaged.is);
      damaged = list_stuck 1 start (at + size) image (omega (arith, inv.from)) (omega (arith, c.in-Ok.ensures.size, long, c.min-there.ensures, c.loop-at-test.true, c.len.ensures, c.len-in-loop-at.ensures, c.size-size.ensures, inv.to)) bad.0.0 n bad.0.1
          (subst (IsStuck 1) (c.in-Ok.ensures.rest ∙ ap (λ (l : List ℕ). take n (drop (at + size) l)) same) bad.1);
    }

pub returns-in-Damaged-clause-device : goal.returns-in-Damaged-clause-device
returns-in-Damaged-clause-device g c =
    let D = g.D.Device in
    let read = goes_on D c.args.device.now c.loop-at.device c.list_next.new.device c.loop-at.at c.list_next.result _ c.loop-at.at _ _ NoCause c.in-Ok.is c.loop-at.invariant.device c.list_next.ensures.device in
    then D _ c.args.device.now c.list_next.new.device (Ok c.loop-at.at) c.loop-at.at _ NoCause _ refl (inr (broken g c)) read

pub loop-at-preserved-in-Head : goal.loop-at-preserved-in-Head
loop-at-preserved-in-Head g c =
    let inv = c.loop-at.invariant in
    let start = c.args.start in
    let at = c.loop-at.at in
    let size = c.in-Ok.next.1 in
    let image = (g.D.Device.disk c.args.device.now).image in
    let same = ap (λ (d : Disk). d.image) inv.device.kept in
    let new = c.list_next.new.inputs.items in
    let rest = c.list_next.new.rest.items in
    let there = c.min-there.result in
    let long : length (take there c.loop-at.buffer) ≡ there = search rules in
    let n = length c.loop-at.rest.items + length (take there c.loop-at.buffer) - size in
    let listed = listed_at 1 start at size image _ c.in-Ok.next.0 c.loop-at.inputs.items new rest same inv.from inv.lists c.in-Ok.ensures.lists in
    absurd (subst (λ (s : Stage). IsListed 1 s (take (at + size - start) (drop start image)) new rest) c.in-Head.is listed)

pub loop-at-preserved-in-Snapshot : goal.loop-at-preserved-in-Snapshot
loop-at-preserved-in-Snapshot g c =
    let inv = c.loop-at.invariant in
    let start = c.args.start in
    let at = c.loop-at.at in
    let size = c.in-Ok.next.1 in
    let image = (g.D.Device.disk c.args.device.now).image in
    let same = ap (λ (d : Disk). d.image) inv.device.kept in
    let new = c.list_next.new.inputs.items in
    let rest = c.list_next.new.rest.items in
    let there = c.min-there.result in
    let long : length (take there c.loop-at.buffer) ≡ there = search rules in
    let n = length c.loop-at.rest.items + length (take there c.loop-at.buffer) - size in
    let listed = listed_at 1 start at size image _ c.in-Ok.next.0 c.loop-at.inputs.items new rest same inv.from inv.lists c.in-Ok.ensures.lists in
    absurd (subst (λ (s : Stage). IsListed 1 s (take (at + size - start) (drop start image)) new rest) c.in-Snapshot.is listed)

pub loop-at-preserved : goal.loop-at-preserved
loop-at-preserved g c =
    let inv = c.loop-at.invariant in
    let start = c.args.start in
    let at = c.loop-at.at in
    let size = c.in-Ok.next.1 in
    let image = (g.D.Device.disk c.args.device.now).image in
    let same = ap (λ (d : Disk). d.image) inv.device.kept in
    let new = c.list_next.new.inputs.items in
    let rest = c.list_next.new.rest.items in
    let there = c.min-there.result in
    let long : length (take there c.loop-at.buffer) ≡ there = search rules in
    let n = length c.loop-at.rest.items + length (take there c.loop-at.buffer) - size in
    let listed = listed_at 1 start at size image _ c.in-Ok.next.0 c.loop-at.inputs.items new rest same inv.from inv.lists c.in-Ok.ensures.lists in
    let D = g.D.Device in
    let rest_is : rest ≡ take n (drop (at + size) image) = c.in-Ok.ensures.rest ∙ ap (λ (l : List ℕ). take n (drop (at + size) l)) same in
    let to : at + size + n ≤ length image = omega (arith, c.in-Ok.ensures.size, long, c.min-there.ensures, c.loop-at-test.true, c.len.ensures, c.len-in-loop-at.ensures, c.size-size.ensures, inv.to) in
    let rest_long : length rest ≡ n = omega (arith, ap (λ (l : List ℕ). length l) rest_is, length-take n (drop (at + size) image), length-drop (at + size) image, to) in
    record {
      from = omega (arith, inv.from);
      to = omega (arith, to, rest_long, c.size-size.ensures);
      rest = rest_is ∙ ap (λ (k : ℕ). take k (drop (at + size) image)) (sym rest_long);
      lists = subst (λ (s : Stage). IsListed 1 s (take (at + size - start) (drop start image)) new rest) c.in-Frames.is listed;
      front = subst (λ (s : Stage). IsWaiting s rest) c.in-Frames.is c.in-Ok.ensures.waits;
      device = goes_on D c.args.device.now c.loop-at.device c.list_next.new.device at c.list_next.result _ _ _ _ _ c.in-Ok.is inv.device c.list_next.ensures.device;
    }

-- the image ends before a closed gate
ended : (g : _) (c : goal.After-drop-inputs-2 g) → IsBroken 1 c.args.start (g.D.Device.disk c.args.device.now).image (refused.Damaged c.loop-at.at)
ended g c =
    let inv = c.loop-at.invariant in
    let at = c.loop-at.at in
    let image = (g.D.Device.disk c.args.device.now).image in
    let kept = c.loop-at.rest.items in
    let end : at + length kept ≡ length image = omega (arith, inv.to, c.loop-at-test.false, c.len.ensures, c.size-size.ensures) in
    let all : kept ≡ drop at image = inv.rest ∙ take_all (length kept) (drop at image) (omega (arith, end, length-drop at image)) in
    record { gate_at = at; is = refl; damaged = list_ends 1 c.args.start at image inv.from (omega (arith, end)) c.loop-at.inputs.items inv.lists (subst IsNextFront all inv.front) }

pub returns-clause-device : goal.returns-clause-device
returns-clause-device g c =
    let D = g.D.Device in
    then D _ c.args.device.now c.loop-at.device (Ok c.loop-at.at) c.loop-at.at _ NoCause _ refl (inr (ended g c)) c.loop-at.invariant.device
