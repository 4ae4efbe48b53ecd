use Rattle.std.proofs.Common.{ℕ, length, subst}
use Rattle.ring_start.specs.Fits.{found_as, Fits}
use Rattle.ring_start.proofs.opening.find_ring.Goals as goal

pub returns-clause-fits : goal.returns-clause-fits
returns-clause-fits g c =
    subst (λ (n : ℕ). Fits found_as n c.in_ok-found.found.items) c.in_ok-found.ensures.count
    (subst (λ ring. Fits found_as (length ring) ring) c.deref.ensures.value c.in_ok-look_over.ensures.fits)
