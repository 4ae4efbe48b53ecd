use Rattle.std.proofs.Common.{◌≡◌, ◌+◌, ◌-◌, Bool, sym, ◌∙◌, subst, arith}
use Rattle.ring_world.specs.Ring.{RingView, swept, swept_one}
use Rattle.ring_world.proofs.Same.{same_again}
use Rattle.ring_world.proofs.Sweeps.{ends, goes, swept_end, swept_none, swept_stop, swept_go}
use Rattle.ring_world.proofs.working.Working.sweep.Goals as goal

pub returns-in_default-clause-swept : goal.returns-in_default-clause-swept
returns-in_default-clause-swept c =
    let i = c.loop.invariant in
    let test = c.loop-test.true in
    ends (swept 10000 c.args.self.now.ring) (swept (10000 - c.loop.counter) c.loop.self.ring) c.loop.count c.loop.self.ring i.count i.state
    (swept_none c.loop.self.ring (10000 - c.loop.counter) (10000 - (c.loop.counter + 1)) (omega arith) (sym c.next_delivery.ensures.value ∙ c.in_default.is))

pub returns-then-not-branch-clause-swept : goal.returns-then-not-branch-clause-swept
returns-then-not-branch-clause-swept c =
    let i = c.loop.invariant in
    let test = c.loop-test.true in
    let one = subst (λ (b : Bool). ◌≡◌ {A = Bool × RingView} (b, c.make_delivery.new.self.ring) (swept_one c.in-Some.delivery.0 c.in-Some.delivery.1 c.loop.self.ring)) c.if-not-branch.true c.in_ok-make_delivery.ensures.next in
    ends (swept 10000 c.args.self.now.ring) (swept (10000 - c.loop.counter) c.loop.self.ring) c.loop.count c.make_delivery.new.self.ring i.count i.state
    (swept_stop c.loop.self.ring c.make_delivery.new.self.ring (10000 - c.loop.counter) (10000 - (c.loop.counter + 1)) c.in-Some.delivery (omega arith) (sym c.next_delivery.ensures.value ∙ c.in-Some.is) one)

pub loop-preserved : goal.loop-preserved
loop-preserved c =
    let i = c.loop.invariant in
    let test = c.loop-test.true in
    let few = i.few in
    let one = subst (λ (b : Bool). ◌≡◌ {A = Bool × RingView} (b, c.make_delivery.new.self.ring) (swept_one c.in-Some.delivery.0 c.in-Some.delivery.1 c.loop.self.ring)) c.if-not-branch.false c.in_ok-make_delivery.ensures.next in
    let moved = goes (swept 10000 c.args.self.now.ring) (swept (10000 - c.loop.counter) c.loop.self.ring) (swept (10000 - (c.loop.counter + 1)) c.make_delivery.new.self.ring) c.loop.count i.count i.state
    (swept_go c.loop.self.ring c.make_delivery.new.self.ring (10000 - c.loop.counter) (10000 - (c.loop.counter + 1)) c.in-Some.delivery (omega arith) (sym c.next_delivery.ensures.value ∙ c.in-Some.is) one) in
    record {
      count = moved.0;
      state = moved.1;
      few = omega arith;
      same = same_again c.args.self.now c.loop.self c.make_delivery.new.self i.same c.make_delivery.ensures.same;
    }

pub returns-clause-swept : goal.returns-clause-swept
returns-clause-swept c =
    let i = c.loop.invariant in
    let test = c.loop-test.false in
    ends (swept 10000 c.args.self.now.ring) (swept (10000 - c.loop.counter) c.loop.self.ring) c.loop.count c.loop.self.ring i.count i.state
    (swept_end c.loop.self.ring (10000 - c.loop.counter) (omega arith))
