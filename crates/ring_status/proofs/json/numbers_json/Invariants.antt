use Rattle.std.proofs.Common.{◌≡◌, map, take}
use Rattle.serde_json.specs.View.{view}
use Rattle.ring_status.specs.Data.{natural}
use Rattle.ring_status.proofs.json.numbers_json.Given as goal

abbrev pub invariant-loop-node : goal.invariant-loop-node
invariant-loop-node l = map view l.all.items ≡ map natural (take l.node-index l.nodes)
