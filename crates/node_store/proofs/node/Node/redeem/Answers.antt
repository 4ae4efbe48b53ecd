use Rattle.node_store.proofs.Results.{of_both}
use Rattle.node_store.proofs.Standing.{goes_on}
use Rattle.node_store.proofs.node.Node.redeem.Goals as goal

pub invariant_of-self : goal.invariant_of-self
invariant_of-self g c =
    let node = c.args.self.now in
    record {
      stands = of_both c.redeem.result _ _ _ c.redeem.ensures.next c.redeem.ensures.same
          (λ next. rw next (goes_on node.desk node.journal node.stands _ node.desk.view.closed)) (λ same. rw same node.stands);
    }
