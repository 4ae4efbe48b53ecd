use Rattle.std.proofs.Common.{refl}
use Rattle.ring_world.proofs.fits.desks_begin_so.Goals as goal

pub returns : goal.returns
returns c = λ member run layout. refl
