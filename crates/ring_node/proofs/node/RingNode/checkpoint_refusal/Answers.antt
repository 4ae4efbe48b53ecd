use Rattle.std.proofs.Common.{◌≡◌, IfSome, Option, ap, sym, subst, ◌∙◌}
use Rattle.ring_records.specs.declared.refusal.Refusal.{Refusal}
use Rattle.ring_records.specs.declared.refusal.Refusal.TheVariants.{OutOfMemory}
use Rattle.ring_node.specs.Node.{NodeView, state_of}
use Rattle.ring_node.specs.Refusals.{checkpoint_refusal}
use Rattle.group_commit.specs.Desk.{DeskKept, seen}
use Rattle.group_commit.specs.Launching.{checkpoint_objection}
use Rattle.ring_node.proofs.Flights.{objection_is, no_memory}
use Rattle.ring_node.proofs.node.RingNode.checkpoint_refusal.Goals as goal

pub returns-clause-value : goal.returns-clause-value
returns-clause-value c =
    c.checkpoint_objection.ensures ∙ (ap (λ (d : DeskKept). checkpoint_objection d) c.desk.ensures
    ∙ (objection_is _ c.self.inside.node.desk _ _ c.self.invariant.behind c.self.invariant.whole.served ∙ ap (λ (v : NodeView). checkpoint_refusal v.member (state_of v)) c.self.view_is))

pub returns-clause-memory : goal.returns-clause-memory
returns-clause-memory c =
    let desk = seen c.self.inside.past.items c.self.inside.node.desk in
    let is = c.checkpoint_objection.ensures ∙ (ap (λ (d : DeskKept). checkpoint_objection d) c.desk.ensures ∙ objection_is _ c.self.inside.node.desk _ _ c.self.invariant.behind c.self.invariant.whole.served) in
    subst (λ (o : Option Refusal). IfSome o (λ why. why ≡ OutOfMemory → ⊥)) (sym is) (no_memory desk.member desk.state)
