use Rattle.std.proofs.Common.{◌≡◌, ◌+◌, ◌-◌, ap, sym, ◌∙◌, arith}
use Rattle.ring_world.specs.Ring.{carried, next_of}
use Rattle.ring_world.specs.State.{State}
use Rattle.ring_world.proofs.Opened.{after_next}
use Rattle.ring_world.proofs.Lowest.{lowest_found, lowest_skip, lowest_last}
use Rattle.ring_world.proofs.Sweeps.{expected_is}
use Rattle.ring_world.proofs.working.Working.ready.Goals as goal

pub returns-then-is_some-clause-value : goal.returns-then-is_some-clause-value
returns-then-is_some-clause-value c =
    let s = c.args.self.now.ring in
    let size : c.self.inside.log.size ≡ s.size = ap (λ (t : State). t.ring.size) c.self.view_is in
    let test = c.loop-test.true in
    let number = expected_is s c.loop.from c.successor-next.result c.taken.result c.self.inside.log.size size c.successor-next.ensures.value c.taken.ensures in
    sym (c.loop.invariant.left
    ∙ lowest_found (next_of s) c.loop.from (c.loop.counter + 1) (s.size - c.loop.counter) (s.size - (c.loop.counter + 1)) c.delivery-delivery.result (c.loop.invariant.next (omega arith)) (omega arith)
    (c.delivery-delivery.ensures.value ∙ ap (carried s c.loop.from) number) (sym c.is_some.ensures ∙ c.if-is_some.true))

pub loop-preserved : goal.loop-preserved
loop-preserved c =
    let s = c.args.self.now.ring in
    let size : c.self.inside.log.size ≡ s.size = ap (λ (t : State). t.ring.size) c.self.view_is in
    let test = c.loop-test.true in
    let number = expected_is s c.loop.from c.successor-next.result c.taken.result c.self.inside.log.size size c.successor-next.ensures.value c.taken.ensures in
    let from = c.loop.invariant.next (omega arith) in
    record {
      next = λ less. after_next c.self.inside.log.size c.loop.from (c.loop.counter + 1) c.successor-next.result from (omega arith) c.successor-next.ensures.value;
      inside = (let inside = c.successor-next.ensures.inside in omega arith);
      left = c.loop.invariant.left
          ∙ lowest_skip (next_of s) c.loop.from (c.loop.counter + 1) (s.size - c.loop.counter) (s.size - (c.loop.counter + 1)) c.delivery-delivery.result from (omega arith)
          (c.delivery-delivery.ensures.value ∙ ap (carried s c.loop.from) number) (sym c.is_some.ensures ∙ c.if-is_some.false);
    }

pub returns-clause-value : goal.returns-clause-value
returns-clause-value c =
    let s = c.args.self.now.ring in
    let size : c.self.inside.log.size ≡ s.size = ap (λ (t : State). t.ring.size) c.self.view_is in
    let end = c.loop-test.false in
    sym (c.loop.invariant.left ∙ lowest_last (next_of s) (c.loop.counter + 1) (s.size - c.loop.counter) (omega arith))
