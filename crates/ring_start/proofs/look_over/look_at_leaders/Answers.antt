use Rattle.std.proofs.Common.{◌+◌, length, below_more, sym, arith}
use Rattle.ring_start.specs.Fits.{found_as, history}
use Rattle.ring_start.proofs.Leaders.{IsContent-along, fit, apart, all_pairs}
use Rattle.ring_start.proofs.look_over.look_at_leaders.Goals as goal

pub returns-in-Some-clause-apart : goal.returns-in-Some-clause-apart
returns-in-Some-clause-apart g c pasts are =
    let place = c.loop-place.place in
    let own = c.desk_at.ensures in
    let past = pasts (place + 1) in
    let known = IsContent-along _ _ _ _ _ _ own.number (own.durable past) (sym c.deref.ensures.value) (c.in-Ok.ensures past (own.past pasts are)) in
    let found = c.in-Some.ensures.some in
    apart _ (place + 1) (history found_as pasts c.args.ring.now) _ known (length c.args.ring.now) _ _ (sym c.number_at.ensures)
    (found.0, omega arith) (omega arith, omega arith) (found.2 pasts are)

pub loop-place-preserved : goal.loop-place-preserved
loop-place-preserved g c pasts are =
    let place = c.loop-place.place in
    let own = c.desk_at.ensures in
    let past = pasts (place + 1) in
    let known = IsContent-along _ _ _ _ _ _ own.number (own.durable past) (sym c.deref.ensures.value) (c.in-Ok.ensures past (own.past pasts are)) in
    below_more _ _ (c.loop-place.invariant pasts are)
    (λ k low. fit (k + 1) (place + 1) (history found_as pasts c.args.ring.now) _ known (c.in_default-differing.ensures.none pasts are (k + 1) (omega arith) (omega arith)))

pub returns-clause-fit : goal.returns-clause-fit
returns-clause-fit g c pasts are =
    all_pairs (length c.args.ring.now) (history found_as pasts c.args.ring.now)
    (λ m low. c.loop-place.invariant pasts are m (omega (arith, low, c.loop-place-test.false)))
