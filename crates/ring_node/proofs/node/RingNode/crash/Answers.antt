use Rattle.std.proofs.Common.{ℕ, ◌≤◌, take, ap, sym, subst, ◌∙◌}
use Rattle.std.specs.List.{filter_map}
use Rattle.ring_records.specs.Member.{Member, member}
use Rattle.ring_records.specs.States.{opened}
use Rattle.group_commit.specs.Desk.{seen}
use Rattle.gated_journal.specs.Reading.{device_size}
use Rattle.disk_model.specs.MemDevice.{disk_of, limit_of}
use Rattle.node_store.specs.State.{Holds}
use Rattle.ring_node.specs.Node.{NodeView, reopened, durable_in}
use Rattle.ring_node.specs.Open.{serial_of}
use Rattle.ring_node.proofs.Again.{IsAgain, lawful_here, long_here, crashed_again, crashed_shown, lost_serials}
use Rattle.ring_node.proofs.Ring.{me_within}
use Rattle.ring_node.proofs.node.RingNode.crash.Goals as goal
use Rattle.ring_node.proofs.node.RingNode.crash.Goals.{After-summarised-past}

again : (c : After-summarised-past)
    → IsAgain (member c.self.inside.me c.self.inside.n c.self.inside.capacity) (seen c.self.inside.past.items c.self.inside.node.desk).state c.summarised-past.result.items c.in_ok-node.node.desk
again c =
    let found = c.in_ok-node.ensures.desk (seen c.self.inside.past.items c.self.inside.node.desk).state (lawful_here _ _ _ _ _ c.self.invariant.whole) (subst (λ (k : Member). Holds k (disk_of c.closed-device.result) (seen c.self.inside.past.items c.self.inside.node.desk).state) c.self.invariant.whole.is (c.closed-device.ensures.holds c.self.inside.past.items c.self.invariant.behind)) in
    record { run = _; keep = found.0; found = found.1; is = c.summarised-past.ensures ∙ ap (take c.in_ok-node.node.desk.opening.inputs) c.in_ok-past.ensures }

pub reopened-requires : goal.reopened-requires
reopened-requires c =
    record {
      in_ring = me_within (member c.self.inside.me c.self.inside.n c.self.inside.capacity) c.self.invariant.whole.range;
      long = subst (λ (k : ℕ). device_size c.self.inside.capacity ≤ k) (sym (ap limit_of c.closed-device.ensures.device)) (long_here _ _ _ _ _ c.self.invariant.whole);
      holds = ((seen c.self.inside.past.items c.self.inside.node.desk).state, lawful_here _ _ _ _ _ c.self.invariant.whole, subst (λ (k : Member). Holds k (disk_of c.closed-device.result) (seen c.self.inside.past.items c.self.inside.node.desk).state) c.self.invariant.whole.is (c.closed-device.ensures.holds c.self.inside.past.items c.self.invariant.behind));
    }

pub invariant_of-again : goal.invariant_of-again
invariant_of-again c = crashed_again _ _ _ _ _ c.self.invariant.whole _ _ (again (goal.at.invariant_of-again c).After-summarised-past) _ c.new-held.ensures.items _ c.in_ok-node.ensures.reaches

pub returns-clause-next : goal.returns-clause-next
returns-clause-next c =
    crashed_shown _ _ _ _ _ c.self.invariant.whole _ _ (again (goal.at.returns-clause-next c).After-summarised-past) _ c.new-held.ensures.items _
    ∙ ap (λ (v : NodeView). reopened (opened v.base (durable_in v)) v) c.self.view_is

pub returns-clause-lost : goal.returns-clause-lost
returns-clause-lost c = c.in_ok-lost.ensures ∙ (lost_serials _ _ _ c.self.invariant.whole.served ∙ ap (λ (v : NodeView). filter_map serial_of v.held) c.self.view_is)
