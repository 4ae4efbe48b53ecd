use Rattle.node_store.proofs.Flight.{durable_all}
use Rattle.node_store.proofs.Standing.{left, held_of}
use Rattle.node_store.proofs.node.Node.into_device.Goals as goal

pub returns-clause-left : goal.returns-clause-left
returns-clause-left g c = let node = c.args.self in rw c.into_device.ensures (left node.desk node.journal node.stands)

pub returns-clause-holds : goal.returns-clause-holds
returns-clause-holds g c = let node = c.args.self in rw c.into_device.ensures (held_of node.desk node.journal node.stands)

pub returns-clause-durable : goal.returns-clause-durable
returns-clause-durable g c = λ works. let node = c.args.self in rw c.into_device.ensures (durable_all node.desk node.journal node.stands works)
