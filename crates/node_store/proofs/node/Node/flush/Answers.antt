use Rattle.std.proofs.Common.{rules, ◌≡◌, arith, List, Bool, cond, sym, ap, subst, ◌∙◌}
use Rattle.std.proofs.lemmas.Grind.{common_steps}
use Rattle.std.proofs.lemmas.Result.{IfOk-weaker}
use Rattle.ring_records.specs.declared.input.Input.{Input}
use Rattle.ring_records.specs.Launching as launching
use Rattle.ring_records.specs.Release.{packets, notices}
use Rattle.ring_records.specs.States.{durable_in, flying_in}
use Rattle.ring_records.proofs.Admission.{or_else-none}
use Rattle.gated_journal.specs.Areas.{AllReadAs}
use Rattle.group_commit.specs.Desk.{DeskView, launched, seen}
use Rattle.group_commit.specs.Launching.{launch_objection, launched_all}
use Rattle.group_commit.specs.Past.{IsPast}
use Rattle.group_commit.proofs.Seen.{launched_seen, lawful_launched_all}
use Rattle.node_store.specs.Flying.{flown_next}
use Rattle.node_store.specs.State.{durable_held}
use Rattle.node_store.proofs.Flight.{summed}
use Rattle.node_store.proofs.Results.{ok_of_all}
use Rattle.node_store.proofs.node.Node.flush.Goals as goal

-- ---- a checkpoint

-- the history shows what it launches
launches : (g : _) (c : goal.After-checkpoint g) (past : List Input) → IsPast c.args.self.now.desk.view.member c.args.self.now.desk.opening past
    → record (seen past c.args.self.now.desk) { state = launching.launched_all c.args.self.now.desk.view.member.node (seen past c.args.self.now.desk).state } ≡ seen past (flown_next c.args.self.now.desk)
launches g c past is =
    let node = c.args.self.now in
    sym (lawful_launched_all past node.desk is (node.stands.lawful past is))
    ∙ ap (λ (b : Bool). seen past (record node.desk { view = cond b (launched_all node.desk) (launched node.desk.view) })) (sym (sym c.needs_checkpoint.ensures.needs ∙ c.if-needs_checkpoint.true))

pub returns-then-needs_checkpoint : goal.returns-then-needs_checkpoint
returns-then-needs_checkpoint g c =
    let node = c.args.self.now in
    let made = c.checkpoint.ensures in
    record {
      next = search rules;
      count = search rules;
      packets = IfOk-weaker c.checkpoint.result _ _ (λ l told past is.
          told past is ∙ ap (λ (v : DeskView). packets node.desk.view.member.node (durable_in (seen past node.desk).state) (flying_in v.state)) (launches g c past is)) made.packets;
      notices = IfOk-weaker c.checkpoint.result _ _ (λ l told past is.
          told past is ∙ ap (λ (v : DeskView). notices node.desk.view.member.node (durable_in (seen past node.desk).state) (flying_in v.state)) (launches g c past is)) made.notices;
      durable = ok_of_all c.checkpoint.result _ _ _ _
          (λ free next durable.
          let is = summed node.desk node.journal node.stands (or_else-none (launch_objection node.desk.view) _ free).0 in
          subst (AllReadAs node.desk.view.member (g.D.Device.disk _)) (sym is ∙ ap durable_held (sym next)) durable) made.works made.next made.durable;
      works = search rules;
      cause = grind (arith, common_steps);
      fault = search rules;
      same = search rules;
      in_reach = search rules;
      any_moment = search rules;
      any_moment_err = search rules;
      stays = search rules;
      device = search rules;
      reach = search rules;
    }

-- ---- a batch

pub returns-else-needs_checkpoint : goal.returns-else-needs_checkpoint
returns-else-needs_checkpoint g c =
    let desk = c.args.self.now.desk in
    record {
      next = search rules;
      count = search rules;
      packets = IfOk-weaker c.flush_batch.result _ _ (λ l told past is.
          told past is ∙ ap (λ (v : DeskView). packets desk.view.member.node (durable_in (seen past desk).state) (flying_in v.state)) (sym (launched_seen past desk)
          ∙ ap (λ (b : Bool). seen past (record desk { view = cond b (launched_all desk) (launched desk.view) })) (sym (sym c.needs_checkpoint.ensures.needs ∙ c.if-needs_checkpoint.false)))) c.flush_batch.ensures.packets;
      notices = IfOk-weaker c.flush_batch.result _ _ (λ l told past is.
          told past is ∙ ap (λ (v : DeskView). notices desk.view.member.node (durable_in (seen past desk).state) (flying_in v.state)) (sym (launched_seen past desk)
          ∙ ap (λ (b : Bool). seen past (record desk { view = cond b (launched_all desk) (launched desk.view) })) (sym (sym c.needs_checkpoint.ensures.needs ∙ c.if-needs_checkpoint.false)))) c.flush_batch.ensures.notices;
      durable = search rules;
      works = search rules;
      cause = search rules;
      fault = search rules;
      same = search rules;
      in_reach = search rules;
      any_moment = search rules;
      any_moment_err = search rules;
      stays = search rules;
      device = search rules;
      reach = search rules;
    }
