use Rattle.group_commit.specs.Ticket.{shown}
use Rattle.node_store.proofs.Results.{of_value}
use Rattle.node_store.proofs.Standing.{asks}
use Rattle.node_store.proofs.node.Node.submit.Goals as goal

pub invariant_of-self : goal.invariant_of-self
invariant_of-self g c =
    let node = c.args.self.now in
    record {
      stands = of_value c.submit.result _ _ _ c.submit.ensures.submitted c.submit.ensures.same
          (λ ticket is. asks node.desk node.journal node.stands c.args.question _ (shown ticket) is) (λ same. rw same node.stands);
    }
