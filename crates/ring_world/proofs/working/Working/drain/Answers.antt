use Rattle.std.proofs.Common.{◌+◌, ◌-◌, ◌≤◌, ◌++◌, ap, sym, subst, ◌∙◌, arith, append_assoc, append-nil}
use Rattle.ring_node.specs.declared.flight.Flight.TheVariants.{Batch}
use Rattle.ring_world.specs.Ring.{Part, RingView, rounds, round}
use Rattle.ring_world.proofs.Same.{same_again}
use Rattle.ring_world.proofs.Sweeps.{rounds_end, rounds_idle, rounds_go}
use Rattle.ring_world.proofs.working.Working.drain.Goals as goal

pub loop-preserved : goal.loop-preserved
loop-preserved c =
    let i = c.loop.invariant in
    let test = c.loop-test.true in
    let w = c.loop.self.ring in
    let go = rounds_go c.args.node w (c.count-most.result - c.loop.counter) (c.count-most.result - (c.loop.counter + 1)) (omega arith) (sym c.waits.ensures ∙ c.if-not-waits.false) in
    let rest : RingView → Part = rounds (c.count-most.result - (c.loop.counter + 1)) c.args.node in
    let next = c.in_ok-round.ensures.next in
    record {
      replies = i.replies ∙ (ap (λ (p : Part). c.loop.replies.items ++ p.0) go
          ∙ (sym (append_assoc c.loop.replies.items (round Batch c.args.node w).0 (rest (round Batch c.args.node w).1).0)
          ∙ (λ t. sym c.in_ok-round.ensures.replies t ++ (rest (sym next t)).0)));
      ring = i.ring ∙ (ap (λ (p : Part). p.1) go ∙ ap (λ (u : RingView). (rest u).1) (sym next));
      inside = subst (λ n. c.args.node ≤ n) (sym c.round.ensures.same.0.0) i.inside;
      same = same_again c.args.self.now c.loop.self c.round.new.self i.same c.round.ensures.same;
    }

pub returns-then-not-waits-clause-next : goal.returns-then-not-waits-clause-next
returns-then-not-waits-clause-next c =
    let test = c.loop-test.true in
    let idle = rounds_idle c.args.node c.loop.self.ring (c.count-most.result - c.loop.counter) (c.count-most.result - (c.loop.counter + 1)) (omega arith) (sym c.waits.ensures ∙ c.if-not-waits.true) in
    sym (c.loop.invariant.ring ∙ ap (λ (p : Part). p.1) idle) ∙ ap (λ m. (rounds m c.args.node c.args.self.now.ring).1) c.count-most.ensures

pub returns-then-not-waits-clause-replies : goal.returns-then-not-waits-clause-replies
returns-then-not-waits-clause-replies c =
    let test = c.loop-test.true in
    let idle = rounds_idle c.args.node c.loop.self.ring (c.count-most.result - c.loop.counter) (c.count-most.result - (c.loop.counter + 1)) (omega arith) (sym c.waits.ensures ∙ c.if-not-waits.true) in
    sym (c.loop.invariant.replies ∙ (ap (λ (p : Part). c.loop.replies.items ++ p.0) idle ∙ append-nil c.loop.replies.items)) ∙ ap (λ m. c.args.first.items ++ (rounds m c.args.node c.args.self.now.ring).0) c.count-most.ensures

pub returns-clause-next : goal.returns-clause-next
returns-clause-next c =
    let test = c.loop-test.false in
    let end = rounds_end c.args.node c.loop.self.ring (c.count-most.result - c.loop.counter) (omega arith) in
    sym (c.loop.invariant.ring ∙ ap (λ (p : Part). p.1) end) ∙ ap (λ m. (rounds m c.args.node c.args.self.now.ring).1) c.count-most.ensures

pub returns-clause-replies : goal.returns-clause-replies
returns-clause-replies c =
    let test = c.loop-test.false in
    let end = rounds_end c.args.node c.loop.self.ring (c.count-most.result - c.loop.counter) (omega arith) in
    sym (c.loop.invariant.replies ∙ (ap (λ (p : Part). c.loop.replies.items ++ p.0) end ∙ append-nil c.loop.replies.items)) ∙ ap (λ m. c.args.first.items ++ (rounds m c.args.node c.args.self.now.ring).0) c.count-most.ensures
