use Rattle.std.proofs.Common.{rules, ◌≡◌, ◌+◌, [], true, length, append-nil, sym, ap, ◌∙◌, subst}
use Rattle.ring_records.specs.Lawful.{IsNodeState}
use Rattle.group_commit.specs.Desk.{DeskKept}
use Rattle.group_commit.specs.Next.{Durable, durable_part}
use Rattle.commit_hub.specs.Ties.{TieView}
use Rattle.commit_hub.specs.Works.{IsNextArea}
use Rattle.commit_hub.specs.Desks.{flying_part}
use Rattle.commit_hub.proofs.Ties.{as_flies, flies_as}
use Rattle.commit_hub.proofs.locked.Locked.fail.Goals as goal

pub invariant_of-self-in-Ok : goal.invariant_of-self-in-Ok
invariant_of-self-in-Ok g c =
    let old = c.args.self.now in
    let desk = old.shared.desk in
    let next : c.fail.new.self ≡ record desk { view = record desk.view { failed = true } } = c.in-Ok.ensures.next in
    record {
      of = ap (λ (d : DeskKept). d.view.member) next ∙ old.of;
      opening = ap (λ (d : DeskKept). d.opening) next ∙ old.opening;
      counts = subst (λ (d : DeskKept). IsNodeState d.view.state) (sym next) old.counts;
      counted = old.counted ∙ sym (ap (λ (d : DeskKept). d.opening.inputs + length d.view.state.inputs) next);
      first_is = old.first_is;
      spare_is = old.spare_is;
      named = c.follow.ensures.held_name ∙ (c.audit.ensures.held_name ∙ old.named);
      held_is = ap (λ (v : TieView). v.durable) c.follow.ensures.held;
      flies = ap (λ (v : TieView). v.flying) c.follow.ensures.held;
      fails = ap (λ (v : TieView). v.failed) c.follow.ensures.held;
      done = λ done. sym (ap (λ (v : TieView). v.done) c.follow.ensures.held) ∙ done;
      next_is = subst (λ (d : DeskKept). IsNextArea d.view.state) (sym next) old.next_is;
    }

pub follow-requires-clause-longer : goal.follow-requires-clause-longer
follow-requires-clause-longer g c =
    ([], append-nil _ ∙ (ap (λ (v : TieView). v.durable.inputs) c.audit.ensures.held ∙ (ap (λ (d : Durable). d.inputs) c.args.self.now.held_is ∙ sym (ap (λ (d : DeskKept). (durable_part d).inputs) c.in-Ok.ensures.next))))

pub returns-in-Ok-clause-tied : goal.returns-in-Ok-clause-tied
returns-in-Ok-clause-tied g c = record {
  flew =
      let old = c.args.self.now in
      ap (λ (v : TieView). v.flying) c.audit.ensures.equal ∙ (old.flies ∙ flies_as old.shared.desk _ c.in-Ok.ensures.flying);
  failed = ap (λ (v : TieView). v.failed) c.follow.ensures.known ∙ ap (λ (d : DeskKept). d.view.failed) c.in-Ok.ensures.next;
  refusal = tt;
  cause = tt;
  back = tt;
  tie =
      let old = c.args.self.now in
      ap (λ (v : TieView). v.durable) c.follow.ensures.known ∙ (ap durable_part c.in-Ok.ensures.next ∙ sym (ap (λ (v : TieView). v.durable) c.audit.ensures.equal ∙ old.held_is));
  flies =
      let old = c.args.self.now in
      ap (λ (v : TieView). v.flying) c.follow.ensures.known ∙ (ap flying_part c.in-Ok.ensures.next ∙ sym (ap (λ (v : TieView). v.flying) c.audit.ensures.equal ∙ old.flies));
  works = tt;
}

pub returns-in-Err-clause-tied : goal.returns-in-Err-clause-tied
returns-in-Err-clause-tied g c = record {
  flew = tt;
  failed = tt;
  refusal = search rules;
  cause =
      λ flies.
      let old = c.args.self.now in
      c.in-Err.ensures.foreign.1 (as_flies old.shared.desk _ (sym (ap (λ (v : TieView). v.flying) c.audit.ensures.equal ∙ old.flies) ∙ flies));
  back = search rules;
  tie = search rules;
  flies = search rules;
  works = search rules;
}
