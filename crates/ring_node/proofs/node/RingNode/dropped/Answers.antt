use Rattle.std.proofs.Common.{ap, ◌∙◌}
use Rattle.ring_records.specs.declared.summary.Summary.{Summary}
use Rattle.group_commit.specs.Desk.{DeskKept}
use Rattle.ring_node.specs.Node.{NodeView}
use Rattle.ring_node.proofs.node.RingNode.dropped.Goals as goal

pub returns : goal.returns
returns c =
    c.first.ensures ∙ (ap (λ (d : DeskKept). d.opening.inputs) c.desk.ensures
    ∙ (ap (λ (s : Summary). s.inputs) c.self.invariant.behind.summed ∙ ap (λ (v : NodeView). v.dropped) c.self.view_is))
