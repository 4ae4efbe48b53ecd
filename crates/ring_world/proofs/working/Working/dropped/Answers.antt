use Rattle.std.proofs.Common.{◌≡◌, ◌+◌, ◌-◌, Some, None, refl, ap, sym, ◌∙◌, arith}
use Rattle.ring_records.specs.declared.refusal.Refusal.TheVariants.{Dropped}
use Rattle.ring_world.specs.Dropped.{dropped_at}
use Rattle.ring_world.specs.State.{State}
use Rattle.ring_world.proofs.Histories.{is_dropped, is_held}
use Rattle.ring_world.proofs.Lowest.{lowest_found, lowest_skip, lowest_last}
use Rattle.ring_world.proofs.Opened.{after_next}
use Rattle.ring_world.proofs.working.Working.dropped.Goals as goal

pub returns-then-dropped-gt0-clause-value : goal.returns-then-dropped-gt0-clause-value
returns-then-dropped-gt0-clause-value c =
    let s = c.args.self.now.ring in
    let size : c.self.inside.log.size ≡ s.size = ap (λ (t : State). t.ring.size) c.self.view_is in
    let test = c.loop-test.true in
    sym (c.loop.invariant.left
    ∙ lowest_found (dropped_at s.size s.capacity s.events) c.loop.node (c.loop.counter + 1) (s.size - c.loop.counter) (s.size - (c.loop.counter + 1)) (Some (Dropped c.loop.node)) (c.loop.invariant.next (omega arith)) (omega arith)
    (is_dropped s.size s.capacity s.events c.loop.node c.dropped.result (c.dropped.ensures ∙ c.at.ensures.dropped) c.if-dropped-gt0.true) refl)

pub loop-preserved : goal.loop-preserved
loop-preserved c =
    let s = c.args.self.now.ring in
    let size : c.self.inside.log.size ≡ s.size = ap (λ (t : State). t.ring.size) c.self.view_is in
    let test = c.loop-test.true in
    let node = c.loop.invariant.next (omega arith) in
    record {
      next = λ less. after_next c.self.inside.log.size c.loop.node (c.loop.counter + 1) c.successor-node.result node (omega arith) c.successor-node.ensures.value;
      inside = (let inside = c.successor-node.ensures.inside in omega arith);
      left = c.loop.invariant.left
          ∙ lowest_skip (dropped_at s.size s.capacity s.events) c.loop.node (c.loop.counter + 1) (s.size - c.loop.counter) (s.size - (c.loop.counter + 1)) None node (omega arith)
          (is_held s.size s.capacity s.events c.loop.node c.dropped.result (c.dropped.ensures ∙ c.at.ensures.dropped) c.if-dropped-gt0.false) refl;
    }

pub returns-clause-value : goal.returns-clause-value
returns-clause-value c =
    let s = c.args.self.now.ring in
    let size : c.self.inside.log.size ≡ s.size = ap (λ (t : State). t.ring.size) c.self.view_is in
    let end = c.loop-test.false in
    sym (c.loop.invariant.left ∙ lowest_last (dropped_at s.size s.capacity s.events) (c.loop.counter + 1) (s.size - c.loop.counter) (omega arith))
