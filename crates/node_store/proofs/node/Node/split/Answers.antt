use Rattle.std.proofs.Common.{rules, ◌≡◌, false}
use Rattle.node_store.proofs.Flight.{durable_all}
use Rattle.node_store.proofs.node.Node.split.Goals as goal

pub returns-clause-durable : goal.returns-clause-durable
returns-clause-durable g c =
    let node = c.args.self in
    let works : node.desk.view.failed ≡ false = search rules in
    durable_all node.desk node.journal node.stands works
