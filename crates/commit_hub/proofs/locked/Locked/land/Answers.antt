use Rattle.std.proofs.Common.{rules, ◌≡◌, ◌+◌, ◌-◌, ◌++◌, arith, drop, length, length-drop, length-take, sym, ap, ◌∙◌}
use Rattle.ring_records.specs.Release.{packets, notices}
use Rattle.ring_records.proofs.Lists.{none≢some}
use Rattle.gated_journal.specs.Batch.{landed as receipted}
use Rattle.group_commit.specs.Desk.{DeskKept, landed}
use Rattle.commit_hub.specs.Holders.{known_by}
use Rattle.ring_records.specs.States.{flying_in}
use Rattle.group_commit.proofs.Costs.{flown}
use Rattle.group_commit.proofs.Seen.{lawful_desk}
use Rattle.group_commit.specs.Next.{Durable, durable_part, with_area, with_batch}
use Rattle.commit_hub.specs.Ties.{TieView}
use Rattle.commit_hub.specs.Told.{IsBrought}
use Rattle.commit_hub.proofs.Batches.{brings, named, released}
use Rattle.commit_hub.specs.Over.{launch_refusal}
use Rattle.commit_hub.proofs.Ties.{as_flies, flies_as, landed_free}
use Rattle.commit_hub.proofs.Works.{flew_none, flew_some, lands_area, lands_batch}
use Rattle.commit_hub.proofs.locked.Locked.land.Goals as goal

pub invariant_of-self-in-Ok : goal.invariant_of-self-in-Ok
invariant_of-self-in-Ok g c =
    let old = c.args.self.now in
    let desk = old.shared.desk in
    let next : c.land.new.self ≡ record desk { view = landed desk.view } = c.in-Ok.ensures.next in
    record {
      of = ap (λ (d : DeskKept). d.view.member) next ∙ old.of;
      opening = ap (λ (d : DeskKept). d.opening) next ∙ old.opening;
      counts = c.accepted-accepted.ensures.counts;
      counted = old.counted ∙ sym (ap (λ (d : DeskKept). d.opening.inputs + length d.view.state.inputs) next);
      first_is = old.first_is;
      spare_is = old.spare_is;
      named = c.follow.ensures.held_name ∙ (c.audit.ensures.held_name ∙ old.named);
      held_is = ap (λ (v : TieView). v.durable) c.follow.ensures.held;
      flies = ap (λ (v : TieView). v.flying) c.follow.ensures.held;
      fails = ap (λ (v : TieView). v.failed) c.follow.ensures.held;
      done = λ done. sym (ap (λ (v : TieView). v.done) c.follow.ensures.held) ∙ done;
      next_is = λ b e. none≢some b (sym (ap (λ (d : DeskKept). d.view.state.checkpoint) next) ∙ e);
    }

pub follow-requires-clause-longer : goal.follow-requires-clause-longer
follow-requires-clause-longer g c =
    let old = c.args.self.now in
    let s = old.shared.desk.view.state in (
      flying_in s,
      ap (λ (d : Durable). d.inputs ++ flying_in s) (ap (λ (v : TieView). v.durable) c.audit.ensures.held ∙ old.held_is) ∙ (flown s old.counts ∙ sym (ap (λ (d : DeskKept). (durable_part d).inputs) c.in-Ok.ensures.next)),
    )

pub returns-in-Ok-clause-packets : goal.returns-in-Ok-clause-packets
returns-in-Ok-clause-packets g c =
    let old = c.args.self.now in
    released packets c.in-Ok.landed.packets.items old.shared.desk _ _ _ old.of old.opening c.in-Ok.ensures.flying.inputs c.in-Ok.ensures.packets

pub returns-in-Ok-clause-notices : goal.returns-in-Ok-clause-notices
returns-in-Ok-clause-notices g c =
    let old = c.args.self.now in
    released notices c.in-Ok.landed.notices.items old.shared.desk _ _ _ old.of old.opening c.in-Ok.ensures.flying.inputs c.in-Ok.ensures.notices

pub returns-in-Ok-clause-tied : goal.returns-in-Ok-clause-tied
returns-in-Ok-clause-tied g c = record {
  count =
      let old = c.args.self.now in
      let s = old.shared.desk.view.state in
      omega (arith, c.in-Ok.ensures.count, ap length c.in-Ok.ensures.flying.inputs, old.counts.durable, old.counts.flying, length-take (s.flying - s.durable) (drop s.durable s.inputs), length-drop s.durable s.inputs);
  kind = search rules;
  few = search rules;
  again = search rules;
  brought =
      let old = c.args.self.now in
      let desk = old.shared.desk in
      let since = ap (λ (d : Durable). d.inputs) (ap (λ (v : TieView). v.durable) c.audit.ensures.equal ∙ old.held_is) in
      named (λ m opening. IsBrought m opening (known_by c.args.tie.now).inputs (receipted c.args.receipt).inputs c.in-Ok.landed) desk _ _ old.of old.opening
      (brings desk c.land.new.self _ _ c.in-Ok.landed old.counts c.in-Ok.ensures.next (lawful_desk c.land.new.self c.accepted-accepted.ensures.known) since
      c.in-Ok.ensures.flying.inputs c.in-Ok.ensures.packets c.in-Ok.ensures.notices);
  batch =
      let old = c.args.self.now in
      let desk = old.shared.desk in
      λ none.
      let lands = lands_batch desk c.land.new.self (receipted c.args.receipt).inputs (flew_none desk.view.state _ c.in-Ok.ensures.flying.snapshot none) old.counts c.in-Ok.ensures.next c.in-Ok.ensures.flying.inputs in
      ap (λ (v : TieView). v.durable) c.follow.ensures.known ∙ (lands ∙ ap (λ (d : Durable). with_batch d (receipted c.args.receipt).inputs) (sym (ap (λ (v : TieView). v.durable) c.audit.ensures.equal ∙ old.held_is)));
  checkpoint =
      let old = c.args.self.now in
      let desk = old.shared.desk in
      λ bytes some.
      let flew = flew_some desk.view.state _ bytes c.in-Ok.ensures.flying.snapshot some in
      let lands = lands_area desk c.land.new.self (receipted c.args.receipt).inputs bytes flew old.next_is old.counts c.in-Ok.ensures.next c.in-Ok.ensures.flying.inputs in
      ap (λ (v : TieView). v.durable) c.follow.ensures.known ∙ (lands ∙ ap (λ (d : Durable). with_area d (receipted c.args.receipt).inputs bytes) (sym (ap (λ (v : TieView). v.durable) c.audit.ensures.equal ∙ old.held_is)));
  flew =
      let old = c.args.self.now in
      ap (λ (v : TieView). v.flying) c.audit.ensures.equal ∙ (old.flies ∙ flies_as old.shared.desk _ c.in-Ok.ensures.flying);
  worked = ap (λ (v : TieView). v.failed) c.audit.ensures.equal ∙ (c.args.self.now.fails ∙ c.in-Ok.ensures.works);
  free =
      ap (λ (v : TieView). launch_refusal v.failed v.flying) c.follow.ensures.known
      ∙ landed_free c.args.self.now.shared.desk c.land.new.self c.in-Ok.ensures.next c.accepted-accepted.ensures.counts c.in-Ok.ensures.works;
  refusal = tt;
  cause = tt;
  back = tt;
  tie = tt;
}

pub returns-in-Err-clause-tied : goal.returns-in-Err-clause-tied
returns-in-Err-clause-tied g c = record {
  count = tt;
  kind = tt;
  few = tt;
  again = tt;
  brought = tt;
  batch = tt;
  checkpoint = tt;
  flew = tt;
  worked = tt;
  free = tt;
  refusal = search rules;
  cause =
      λ flies works.
      let old = c.args.self.now in
      c.in-Err.ensures.foreign.1 (as_flies old.shared.desk _ (sym (ap (λ (v : TieView). v.flying) c.audit.ensures.equal ∙ old.flies) ∙ flies)) (sym (ap (λ (v : TieView). v.failed) c.audit.ensures.equal ∙ old.fails) ∙ works);
  back = search rules;
  tie = search rules;
}
