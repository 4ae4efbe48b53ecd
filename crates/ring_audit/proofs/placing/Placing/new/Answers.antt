use Rattle.std.proofs.Common.{◌≡◌, ◌<◌, length, get_or, refl, ap, sym, ◌∙◌, subst, arith}
use Rattle.ring_audit.specs.Placement.{lists}
use Rattle.ring_audit.proofs.Steps.{next_node, fresh_part, parts_push, placing_start}
use Rattle.ring_audit.proofs.placing.Placing.new.Goals as goal

pub loop-history-preserved : goal.loop-history-preserved
loop-history-preserved c =
    let inv = c.loop-history.invariant in
    let test = c.loop-history-test.true in
    let k = c.loop-history.history-index in
    let len = c.in_ok-push.ensures.len in
    let fresh = fresh_part c.args.histories.now _ c.loop-history.node k c.history-item.result c.new.result refl (inv.next test) test c.history-item.is c.new.ensures.stands (c.new.ensures.left ∙ (c.len.ensures ∙ c.history-item.result.ok.0)) in
    record {
      next = next_node _ c.loop-history.node c.successor-node.result k inv.next c.successor-node.ensures.value;
      inside = c.successor-node.ensures.inside;
      count = (let count = inv.count in omega arith);
      each = λ j part lt is. parts_push (lists c.args.histories.now) c.loop-history.parts.items k c.new.result (sym c.loop-history.parts.ok.0 ∙ inv.count) inv.each fresh j part lt (is ∙ ap (λ ps. get_or ps j part) c.in_ok-push.ensures.items);
    }

pub returns : goal.returns
returns c =
    let inv = c.loop-history.invariant in
    let past = c.loop-history-test.false in
    let end = c.loop-history.auto.history-index-end in
    let at_end : c.loop-history.history-index ≡ length c.args.histories.now = omega arith in
    placing_start c.args.histories.now _ refl c.requires.most (sym c.loop-history.parts.ok.0 ∙ (inv.count ∙ at_end)) c.new-2.ensures.items (λ k part lt is. inv.each k part (subst (λ m. k < m) (sym at_end) lt) is)
