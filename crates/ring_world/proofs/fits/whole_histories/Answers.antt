use Rattle.ring_world.proofs.Histories.{whole_histories}
use Rattle.ring_world.proofs.fits.whole_histories.Goals as goal

pub returns : goal.returns
returns c = whole_histories
