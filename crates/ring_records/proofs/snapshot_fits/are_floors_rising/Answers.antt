use Rattle.std.proofs.Common.{true, sym, ◌∙◌}
use Rattle.ring_records.proofs.FloorsInOrder.{floors_rise_all, floors_rising_at}
use Rattle.ring_records.proofs.snapshot_fits.are_floors_rising.Goals as goal

pub returns-then-not-is_group_before : goal.returns-then-not-is_group_before
returns-then-not-is_group_before c =
    let floors = c.args.floors.now in
    (λ e. absurd cc, λ sorted. sym c.if-not-is_group_before.true ∙ c.is_group_before.ensures.1 (floors_rising_at floors c.loop-i.i _ _ c.loop-i.auto.i c.loop-i-test.true c.index-floors-i.is c.index-floors-i-in-loop-i.is sorted))

pub returns : goal.returns
returns c = (λ e. floors_rise_all c.args.floors.now c.loop-i.i c.loop-i.invariant c.loop-i-test.false, λ sorted i. true)
