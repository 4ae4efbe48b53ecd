use Rattle.ring_world.proofs.Corollaries.{ring_fits}
use Rattle.ring_world.proofs.fits.ring_fits.Goals as goal

pub returns : goal.returns
returns c = record { fits = ring_fits }
