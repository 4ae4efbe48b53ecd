use Rattle.std.proofs.Common.{ℕ, ◌≡◌, ◌≤◌, true, take, nat_lt, ap, subst, sym, ◌∙◌}
use Rattle.std.specs.List.{filter_map}
use Rattle.std.specs.Prelude.{◌||◌}
use Rattle.disk_model.specs.MemDevice.{disk_of}
use Rattle.ring_records.specs.Emission.{sent}
use Rattle.ring_records.specs.Member.{member}
use Rattle.gated_journal.specs.Reading.{device_size}
use Rattle.group_commit.specs.Desk.{DeskKept, seen}
use Rattle.ring_node.specs.Held.{MayStop}
use Rattle.ring_node.specs.Node.{NodeView, launched_as, left, reopened, is_credited}
use Rattle.ring_node.specs.Open.{serial_of}
use Rattle.ring_node.proofs.Again.{IsAgain, held_here, long_here, stopped_behind, all_durable, sent_first, credits_few, stopped_again, stopped_shown, lost_serials}
use Rattle.ring_node.proofs.Flights.{inputs_stay, lawful_flying, may_fly, may_begin}
use Rattle.ring_node.proofs.Serving.{count_past}
use Rattle.ring_node.proofs.Ring.{me_within}
use Rattle.ring_node.proofs.node.RingNode.stop_within.Goals as goal
use Rattle.ring_node.proofs.node.RingNode.stop_within.Goals.{After-summarised-past}

again : (c : After-summarised-past)
    → IsAgain (member c.self.inside.me c.self.inside.n c.self.inside.capacity) (launched_as c.args.flight c.self.inside.me (seen c.self.inside.past.items c.self.inside.node.desk).state) c.summarised-past.result.items c.in_ok-node.node.desk
again c =
    let s = (seen c.self.inside.past.items c.self.inside.node.desk).state in
    let found = c.in_ok-node.ensures.desk (launched_as c.args.flight c.self.inside.me s) (lawful_flying _ _ _ _ _ c.self.invariant.whole c.args.flight) (held_here _ _ _ _ _ c.self.invariant.whole c.args.flight (disk_of c.in_ok-device.device) (c.in_ok-device.ensures.holds c.self.inside.past.items c.self.invariant.behind c.self.invariant.whole.served.lawful)) in
    record { run = _; keep = found.0; found = found.1; is = c.summarised-past.ensures ∙ ap (take c.in_ok-node.node.desk.opening.inputs) (c.in_ok-past.ensures ∙ sym (inputs_stay c.args.flight c.self.inside.me s)) }

pub stopped-requires-clause-free : goal.stopped-requires-clause-free
stopped-requires-clause-free c =
    may_fly c.args.flight _ _ _ _ c.self.invariant.behind c.self.invariant.whole.served (may_begin c.args.flight _ (subst (MayStop c.args.flight) (sym c.self.view_is) c.requires.free))

pub reopened-requires : goal.reopened-requires
reopened-requires c =
    record {
      in_ring = me_within (member c.self.inside.me c.self.inside.n c.self.inside.capacity) c.self.invariant.whole.range;
      long = subst (λ (k : ℕ). device_size c.self.inside.capacity ≤ k) (sym c.in_ok-device.ensures.limit) (long_here _ _ _ _ _ c.self.invariant.whole);
      holds = (_, lawful_flying _ _ _ _ _ c.self.invariant.whole c.args.flight, held_here _ _ _ _ _ c.self.invariant.whole c.args.flight (disk_of c.in_ok-device.device) (c.in_ok-device.ensures.holds c.self.inside.past.items c.self.invariant.behind c.self.invariant.whole.served.lawful));
    }

pub caught_up-requires : goal.caught_up-requires
caught_up-requires c =
    let now = again (goal.at.caught_up-requires c).After-summarised-past in
    let credited = subst (λ (v : NodeView). is_credited v ≡ true) (sym c.self.view_is) c.requires.credited in
    rw c.desk.ensures (record {
      behind = stopped_behind _ _ _ _ _ c.self.invariant.whole c.args.flight _ _ now;
      durable = all_durable _ _ _ _ _ c.self.invariant.whole c.args.flight _ _ now;
      sent = sent_first _ _ _ _ _ c.self.invariant.whole c.args.flight _ _ now;
      credited = credits_few _ _ _ _ _ c.self.invariant.whole c.args.flight _ _ now credited;
    })

pub invariant_of-again : goal.invariant_of-again
invariant_of-again c =
    let sends = c.in_ok-messages.ensures ∙ ap (λ (d : DeskKept). sent d.view.member.node (seen c.summarised-past.result.items d).state.inputs) c.desk.ensures in
    stopped_again _ _ _ _ _ c.self.invariant.whole c.args.flight _ _ (again (goal.at.invariant_of-again c).After-summarised-past) _ c.new.ensures.items _ c.in_ok-messages.messages.items c.in_ok-node.ensures.reaches sends

pub returns-clause-next : goal.returns-clause-next
returns-clause-next c =
    let now = again (goal.at.returns-clause-next c).After-summarised-past in
    let may = subst (MayStop c.args.flight) (sym c.self.view_is) c.requires.free in
    let behind = stopped_behind _ _ _ _ _ c.self.invariant.whole c.args.flight _ _ now in
    let tells = c.has_gained-keeps.ensures ∙ λ i. nat_lt ((c.durable-durable.ensures ∙ count_past c.self.inside.past.items c.self.inside.node.desk _ c.self.invariant.behind) i) (count_past c.summarised-past.result.items c.in_ok-node.node.desk c.in_ok-node.node.desk.view.state.durable behind i)
    || nat_lt (c.epoch-epoch.ensures i) c.in_ok-node.node.desk.view.state.base.epoch in
    stopped_shown _ _ _ _ _ c.self.invariant.whole c.args.flight _ _ now _ c.new.ensures.items _ c.has_gained-keeps.result may tells ∙ ap (λ (v : NodeView). reopened (left c.args.flight c.has_gained-keeps.result v) v) c.self.view_is

pub returns-clause-lost : goal.returns-clause-lost
returns-clause-lost c = c.in_ok-lost.ensures ∙ (lost_serials _ _ _ c.self.invariant.whole.served ∙ ap (λ (v : NodeView). filter_map serial_of v.held) c.self.view_is)
