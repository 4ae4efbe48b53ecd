use Rattle.std.proofs.Common.{[], ◌∷◌, ◌++◌, sym, subst}
use Rattle.ring_start.specs.Written.{IsReady, AreReady}
use Rattle.ring_start.proofs.Opened.{AllZip-more}
use Rattle.ring_start.proofs.opening.make_ready.Goals as goal

pub loop-node-preserved : goal.loop-node-preserved
loop-node-preserved g c =
    let yielded = c.loop-node.yielded in
    let node = c.in-Some.node in
    subst (λ ring. AreReady (yielded ++ node ∷ []) ring) (sym c.in_ok-push-in-Ok.ensures.items)
    (AllZip-more IsReady yielded c.loop-node.ring.items node c.in-Ok.ready c.loop-node.invariant c.in-Ok.ensures)
