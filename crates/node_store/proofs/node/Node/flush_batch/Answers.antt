use Rattle.std.proofs.Common.{rules, ◌∙◌, ⊎_elim, inl, inr, sym, ap}
use Rattle.disk_model.proofs.Moments.{started, weaken}
use Rattle.ring_records.specs.History.{taken}
use Rattle.ring_records.specs.Lists.{found_after}
use Rattle.ring_records.specs.Release.{packets, notices, carries, credits}
use Rattle.ring_records.specs.States.{durable_in, flying_in}
use Rattle.group_commit.specs.Desk.{DeskView, seen}
use Rattle.group_commit.proofs.Seen.{launched_seen}
use Rattle.node_store.proofs.Flight.{batch_flies, durable_all, launch_refused, none_behind, none_launched, not_launched, works}
use Rattle.node_store.proofs.Standing.{left}
use Rattle.node_store.proofs.node.Node.flush_batch.Goals as goal

-- ---- refused

pub returns-in-Err : goal.returns-in-Err
returns-in-Err g c =
    let node = c.args.self.now in
    record {
      next = tt;
      count = tt;
      packets = tt;
      notices = tt;
      durable = tt;
      works = tt;
      cause = not_launched node.desk node.journal node.stands c.in-Err.refusal _ _ c.in-Err.ensures.refusal;
      fault = search rules;
      same = search rules;
      in_reach = λ reach. ⊎_elim (λ failed. inl failed) (λ short. inr (inr (inr short))) (launch_refused node.desk node.journal node.stands c.in-Err.refusal c.in-Err.ensures.refusal);
      any_moment = tt;
      any_moment_err = rw c.in-Err.ensures.same (started g.D.Device.clock g.D.Device.left_since _ _ (λ image may. left node.desk node.journal node.stands image (g.met.D.Device.only_now _ image may)));
      stays = search rules;
      device = tt;
      reach = search rules;
    }

-- ---- none waits

pub invariant_of-self-in-Ok-None : goal.invariant_of-self-in-Ok-None
invariant_of-self-in-Ok-None g c =
    let node = c.args.self.now in
    let launch = c.in-Ok-None.ensures in
    let same = none_launched node.desk node.journal node.stands launch.free (rw c.in-Ok-None.field-0-is at launch.none) in
    record { stands = rw (launch.next, same) node.stands }

pub returns-in-Ok-None : goal.returns-in-Ok-None
unfolding packets notices carries credits found_after taken
returns-in-Ok-None g c =
    let node = c.args.self.now in
    let launch = c.in-Ok-None.ensures in
    let same = none_launched node.desk node.journal node.stands launch.free (rw c.in-Ok-None.field-0-is at launch.none) in
    record {
      next = search rules;
      count = search rules;
      packets = λ past is. c.new.ensures.packets ∙ ap (packets node.desk.view.member.node (durable_in (seen past node.desk).state)) (sym (none_behind past node.desk.view.state (rw c.in-Ok-None.field-0-is at launch.none)));
      notices = λ past is. c.new.ensures.notices ∙ ap (notices node.desk.view.member.node (durable_in (seen past node.desk).state)) (sym (none_behind past node.desk.view.state (rw c.in-Ok-None.field-0-is at launch.none)));
      durable = rw launch.next (durable_all node.desk node.journal node.stands (works node.desk node.journal node.stands launch.free));
      works = search rules;
      cause = tt;
      fault = tt;
      same = tt;
      in_reach = λ reach. tt;
      any_moment = rw same (started g.D.Device.clock g.D.Device.left_since _ _ (λ image may. left node.desk node.journal node.stands image (g.met.D.Device.only_now _ image may)));
      any_moment_err = tt;
      stays = search rules;
      device = search rules;
      reach = search rules;
    }

-- ---- a batch flies

pub settle-requires : goal.settle-requires
settle-requires g c =
    let node = c.args.self.now in
    let launch = c.in-Ok-Some.ensures in
    let is = c.in-Ok-Some.field-0-is in
    rw launch.next (batch_flies node.desk node.journal node.stands launch.free c.in-Ok-Some.batch (rw is at launch.none) (rw (is, launch.next) at launch.batch) (rw (is, launch.next) at launch.fits) (rw is at launch.suits))

pub returns-in-Ok : goal.returns-in-Ok
returns-in-Ok g c =
    let launch = c.in-Ok-Some.ensures in
    let is = rw launch.next at c.in-Ok.ensures.next in
    record {
      next = search rules;
      count = search rules;
      packets = λ past is. (rw launch.next at c.in-Ok.ensures.packets) past is ∙ ap (λ (v : DeskView). packets v.member.node (durable_in v.state) (flying_in v.state)) (launched_seen past c.args.self.now.desk);
      notices = λ past is. (rw launch.next at c.in-Ok.ensures.notices) past is ∙ ap (λ (v : DeskView). notices v.member.node (durable_in v.state) (flying_in v.state)) (launched_seen past c.args.self.now.desk);
      durable = rw is (rw launch.next at c.in-Ok.ensures.durable);
      works = search rules;
      cause = tt;
      fault = tt;
      same = tt;
      in_reach = λ reach. tt;
      any_moment = rw launch.next at c.in-Ok.ensures.any_moment;
      any_moment_err = tt;
      stays = search rules;
      device = search rules;
      reach = search rules;
    }

pub returns-in-Err-settle : goal.returns-in-Err-settle
returns-in-Err-settle g c =
    record {
      next = tt;
      count = tt;
      packets = tt;
      notices = tt;
      durable = tt;
      works = tt;
      cause = search rules;
      fault = search rules;
      same = search rules;
      in_reach = search rules;
      any_moment = tt;
      any_moment_err = weaken g.D.Device.clock g.D.Device.left_since _ _ _ _ (λ image left. rw c.in-Err-settle.ensures.failed (record { read = left.read; left = left.left })) c.in-Err-settle.ensures.any_moment;
      stays = search rules;
      device = tt;
      reach = search rules;
    }
