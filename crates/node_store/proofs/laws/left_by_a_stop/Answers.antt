use Rattle.node_store.proofs.Standing.{left}
use Rattle.node_store.proofs.laws.left_by_a_stop.Goals as goal

pub returns : goal.returns
returns g c = let node = c.args.node.now in left node.desk node.journal node.stands
