use Rattle.std.proofs.Common.{◌≡◌, ◌+◌, Vec, Global, ◌++◌, ◌∷◌, [], map, take, ap, sym, ◌∙◌, arith}
use Rattle.std.proofs.lemmas.List.{map_push}
use Rattle.ring_records.specs.declared.input.Input.{Input}
use Rattle.ring_records.specs.States.{durable_in}
use Rattle.ring_world.specs.Capacity.{state_after, all_fresh}
use Rattle.ring_world.specs.State.{State}
use Rattle.ring_world.proofs.Histories.{histories_more, none_dropped}
use Rattle.ring_world.proofs.Opened.{after_next}
use Rattle.ring_world.proofs.working.Working.durable_histories.Goals as goal

pub durable_history-requires : goal.durable_history-requires
durable_history-requires c =
    let s = c.args.self.now.ring in
    let size : c.self.inside.log.size ≡ s.size = ap (λ (t : State). t.ring.size) c.self.view_is in
    let test = c.loop-test.true in
    let node = c.loop.invariant.next (omega arith) in
    record { whole = c.at.ensures.dropped ∙ none_dropped s.size s.capacity s.events c.requires.whole c.loop.node (omega arith) c.loop.invariant.inside }

pub loop-preserved : goal.loop-preserved
loop-preserved c =
    let s = c.args.self.now.ring in
    let size : c.self.inside.log.size ≡ s.size = ap (λ (t : State). t.ring.size) c.self.view_is in
    let test = c.loop-test.true in
    let node = c.loop.invariant.next (omega arith) in
    let more : c.in_ok-history.history.items ≡ durable_in (state_after all_fresh s.size s.capacity s.events (c.loop.counter + 1)) =
    c.in_ok-history.ensures ∙ ((λ i. take (c.at.ensures.durable i) (c.at.ensures.inputs i)) ∙ ap (λ k. durable_in (state_after all_fresh s.size s.capacity s.events k)) node) in
    record {
      next = λ less. after_next c.self.inside.log.size c.loop.node (c.loop.counter + 1) c.successor-node.result node (omega arith) c.successor-node.ensures.value;
      inside = (let inside = c.successor-node.ensures.inside in omega arith);
      items = ap (map (λ (v : Vec Input Global). v.items)) c.in_ok-push.ensures.items
          ∙ (map_push (λ (v : Vec Input Global). v.items) c.loop.histories.items c.in_ok-history.history
          ∙ ((λ i. c.loop.invariant.items i ++ more i ∷ []) ∙ sym (histories_more all_fresh s.size s.capacity s.events c.loop.counter)));
    }
