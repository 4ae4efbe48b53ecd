use Rattle.std.proofs.Common.{true, sym, ◌∙◌}
use Rattle.ring_records.proofs.StatesInOrder.{rise-all, rising-at}
use Rattle.ring_records.proofs.snapshot_fits.are_rising.Goals as goal

pub returns-then-not-is_before : goal.returns-then-not-is_before
returns-then-not-is_before c =
    let states = c.args.states.now in
    (λ e. absurd cc, λ sorted. sym c.if-not-is_before.true ∙ c.is_before.ensures.1 (rising-at states c.loop-i.i _ _ c.loop-i.auto.i c.loop-i-test.true c.index-states-i.is c.index-states-i-in-loop-i.is sorted))

pub returns : goal.returns
returns c = (λ e. rise-all c.args.states.now c.loop-i.i c.loop-i.invariant c.loop-i-test.false, λ sorted i. true)
