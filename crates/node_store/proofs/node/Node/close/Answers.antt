use Rattle.std.proofs.Common.{true}
use Rattle.node_store.proofs.Standing.{goes_on}
use Rattle.node_store.proofs.node.Node.close.Goals as goal

pub invariant_of-self : goal.invariant_of-self
invariant_of-self g c =
    let node = c.args.self.now in
    record { stands = rw c.close.ensures (goes_on node.desk node.journal node.stands node.desk.view.tickets true) }
