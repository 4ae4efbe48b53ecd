use Rattle.std.proofs.Common.{◌≤◌, IfSome, sym, subst}
use Rattle.ring_records.specs.Member.{Member}
use Rattle.ring_records.specs.Message.{candidate_of}
use Rattle.ring_node.specs.Held.{AreInside}
use Rattle.ring_node.specs.Node.{NodeView}
use Rattle.ring_node.proofs.Sending.{inside-at}
use Rattle.ring_node.proofs.node.RingNode.message.Goals as goal

pub returns-clause-inside : goal.returns-clause-inside
returns-clause-inside c =
    let n = c.self.inside.n in
    let all = subst (AreInside n) (sym c.deref.ensures.value) c.self.invariant.whole.inside in
    let inside = inside-at (λ x. x.now) n c.deref.result.now c.args.no c.get.result c.get.ensures.lookup.0 c.get.ensures.lookup.1 all in
    let told = subst (λ found. IfSome found (λ msg. (candidate_of msg).node ≤ n)) (sym c.copied.ensures) inside in
    let named = subst (λ (k : Member). IfSome c.copied.result (λ msg. (candidate_of msg).node ≤ k.n)) (sym c.self.invariant.whole.is) told in
    subst (λ (v : NodeView). IfSome c.copied.result (λ msg. (candidate_of msg).node ≤ v.member.n)) c.self.view_is named
