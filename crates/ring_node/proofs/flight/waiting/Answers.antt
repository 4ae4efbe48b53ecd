use Rattle.std.proofs.Common.{arith}
use Rattle.std.proofs.lemmas.List.{length-drop}
use Rattle.ring_node.proofs.Waits.{few_wait}
use Rattle.ring_node.proofs.flight.waiting.Goals as goal

pub returns-clause-few : goal.returns-clause-few
returns-clause-few c = λ none layout.
    let d = c.args.desk.now in
    let s = d.view.state in
    let few = few_wait d.view.member d.opening s none layout c.accepted.ensures.known in
    omega (arith, few, length-drop s.durable s.inputs, c.accepted.ensures.value, c.durable.ensures)
