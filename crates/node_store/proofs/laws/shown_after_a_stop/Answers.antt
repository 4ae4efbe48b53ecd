use Rattle.node_store.proofs.Left.{opened_as}
use Rattle.node_store.proofs.laws.shown_after_a_stop.Goals as goal

pub returns : goal.returns
returns c = opened_as
