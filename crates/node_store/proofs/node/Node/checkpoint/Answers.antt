use Rattle.std.proofs.Common.{rules, ◌∙◌, ap}
use Rattle.disk_model.proofs.Moments.{started, weaken}
use Rattle.ring_records.specs.Release.{packets, notices}
use Rattle.ring_records.specs.States.{durable_in, flying_in}
use Rattle.ring_records.proofs.Admission.{or_else-none}
use Rattle.group_commit.specs.Desk.{DeskView}
use Rattle.group_commit.specs.Launching.{launch_objection}
use Rattle.node_store.proofs.Flight.{unbegun, no_fault, checkpoint_flies, summed}
use Rattle.node_store.proofs.Standing.{left}
use Rattle.node_store.proofs.node.Node.checkpoint.Goals as goal

-- ---- refused

pub returns-in-Err : goal.returns-in-Err
returns-in-Err g c =
    let node = c.args.self.now in
    let why = unbegun node.desk node.journal node.stands c.in-Err.refusal c.in-Err.ensures.refusal in
    record {
      next = tt;
      count = tt;
      packets = tt;
      notices = tt;
      durable = tt;
      works = tt;
      cause = search rules;
      fault = λ fault. absurd (no_fault _ _ _ why fault);
      same = search rules;
      in_reach = λ reach. why;
      any_moment = tt;
      any_moment_err = rw c.in-Err.ensures.same (started g.D.Device.clock g.D.Device.left_since _ _ (λ image may. left node.desk node.journal node.stands image (g.met.D.Device.only_now _ image may)));
      stays = search rules;
      device = tt;
      reach = search rules;
    }

-- ---- it flies

pub settle-requires : goal.settle-requires
settle-requires g c =
    let node = c.args.self.now in
    let launch = c.in-Ok.ensures in
    let free = (or_else-none (launch_objection node.desk.view) _ launch.free).0 in
    rw launch.next (checkpoint_flies node.desk node.journal node.stands free c.in-Ok.checkpoint launch.summary launch.sound launch.fits launch.epoch (rw launch.next at launch.checkpoint))

pub returns-in-Ok-settle : goal.returns-in-Ok-settle
returns-in-Ok-settle g c =
    let node = c.args.self.now in
    let launch = c.in-Ok.ensures in
    let is = summed node.desk node.journal node.stands (or_else-none (launch_objection node.desk.view) _ launch.free).0 in
    record {
      next = search rules;
      count = search rules;
      packets = λ past is. (rw launch.next at c.in-Ok-settle.ensures.packets) past is ∙ ap (λ (v : DeskView). packets v.member.node (durable_in v.state) (flying_in v.state)) (rw launch.next at (launch.lifted past is));
      notices = λ past is. (rw launch.next at c.in-Ok-settle.ensures.notices) past is ∙ ap (λ (v : DeskView). notices v.member.node (durable_in v.state) (flying_in v.state)) (rw launch.next at (launch.lifted past is));
      durable = rw is at (rw launch.next at c.in-Ok-settle.ensures.durable);
      works = search rules;
      cause = tt;
      fault = tt;
      same = tt;
      in_reach = λ reach. tt;
      any_moment = rw launch.next at c.in-Ok-settle.ensures.any_moment;
      any_moment_err = tt;
      stays = search rules;
      device = search rules;
      reach = search rules;
    }

pub returns-in-Err-settle : goal.returns-in-Err-settle
returns-in-Err-settle g c =
    record {
      next = tt;
      count = tt;
      packets = tt;
      notices = tt;
      durable = tt;
      works = tt;
      cause = search rules;
      fault = search rules;
      same = search rules;
      in_reach = search rules;
      any_moment = tt;
      any_moment_err = weaken g.D.Device.clock g.D.Device.left_since _ _ _ _ (λ image left. rw c.in-Err-settle.ensures.failed (record { read = left.read; left = left.left })) c.in-Err-settle.ensures.any_moment;
      stays = search rules;
      device = tt;
      reach = search rules;
    }
