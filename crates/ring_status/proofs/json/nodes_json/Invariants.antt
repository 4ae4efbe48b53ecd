use Rattle.std.proofs.Common.{◌≡◌, map, take}
use Rattle.serde_json.specs.View.{view}
use Rattle.ring_status.specs.Data.{node_data}
use Rattle.ring_status.proofs.json.nodes_json.Given as goal

abbrev pub invariant-loop-node : goal.invariant-loop-node
invariant-loop-node l = map view l.all.items ≡ map node_data (take l.node-index l.nodes)
