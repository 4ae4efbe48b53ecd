use Rattle.std.proofs.Common.{◌∙◌}
use Rattle.ring_start.specs.Fits.{found_as}
use Rattle.ring_start.specs.Written.{GoesOn, IsReady, ready_as}
use Rattle.ring_start.proofs.Opened.{AllZip-weaker, AllZip-length, in_order, fits}
use Rattle.ring_start.proofs.opening.open_ring.Goals as goal

pub returns-clause-order : goal.returns-clause-order
returns-clause-order g c =
    let on = AllZip-weaker IsReady (λ x y. GoesOn (found_as x) (ready_as y)) (λ x y ready. ready.goes_on) c.args.found.items c.in_ok-ring.ring.items c.in_ok-ring.ensures in
    in_order found_as ready_as c.args.found.items c.in_ok-ring.ring.items on c.requires.order

pub returns-clause-count : goal.returns-clause-count
returns-clause-count g c = AllZip-length IsReady c.args.found.items c.in_ok-ring.ring.items c.in_ok-ring.ensures ∙ c.requires.count

pub returns-clause-fits : goal.returns-clause-fits
returns-clause-fits g c =
    let on = AllZip-weaker IsReady (λ x y. GoesOn (found_as x) (ready_as y)) (λ x y ready. ready.goes_on) c.args.found.items c.in_ok-ring.ring.items c.in_ok-ring.ensures in
    fits found_as ready_as _ c.args.found.items c.in_ok-ring.ring.items on c.requires.fits
