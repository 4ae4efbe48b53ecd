use Rattle.node_store.proofs.Results.{of_both}
use Rattle.node_store.proofs.Standing.{goes_on}
use Rattle.node_store.proofs.node.Node.forfeit.Goals as goal

pub invariant_of-self : goal.invariant_of-self
invariant_of-self g c =
    let node = c.args.self.now in
    record {
      stands = of_both c.forfeit.result _ _ _ c.forfeit.ensures.next c.forfeit.ensures.same
          (λ next. rw next (goes_on node.desk node.journal node.stands _ node.desk.view.closed)) (λ same. rw same node.stands);
    }
