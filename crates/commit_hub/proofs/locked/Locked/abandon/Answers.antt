use Rattle.std.proofs.Common.{◌≡◌, ◌+◌, [], true, length, append-nil, sym, ap, ◌∙◌, subst}
use Rattle.ring_records.specs.Lawful.{IsNodeState}
use Rattle.group_commit.specs.Desk.{DeskKept}
use Rattle.group_commit.specs.Next.{Durable, durable_part}
use Rattle.commit_hub.specs.Ties.{TieView}
use Rattle.commit_hub.specs.Works.{IsNextArea}
use Rattle.commit_hub.specs.Desks.{flying_part}
use Rattle.commit_hub.proofs.locked.Locked.abandon.Goals as goal

pub invariant_of-self : goal.invariant_of-self
invariant_of-self g c =
    let old = c.args.self.now in
    let desk = old.shared.desk in
    let next : c.abandon.new.self ≡ record desk { view = record desk.view { failed = true } } = c.abandon.ensures in
    record {
      of = ap (λ (d : DeskKept). d.view.member) next ∙ old.of;
      opening = ap (λ (d : DeskKept). d.opening) next ∙ old.opening;
      counts = subst (λ (d : DeskKept). IsNodeState d.view.state) (sym next) old.counts;
      counted = old.counted ∙ sym (ap (λ (d : DeskKept). d.opening.inputs + length d.view.state.inputs) next);
      first_is = old.first_is;
      spare_is = old.spare_is;
      named = c.follow.ensures.held_name ∙ old.named;
      held_is = ap (λ (v : TieView). v.durable) c.follow.ensures.held;
      flies = ap (λ (v : TieView). v.flying) c.follow.ensures.held;
      fails = ap (λ (v : TieView). v.failed) c.follow.ensures.held;
      done = λ done. sym (ap (λ (v : TieView). v.done) c.follow.ensures.held) ∙ done;
      next_is = subst (λ (d : DeskKept). IsNextArea d.view.state) (sym next) old.next_is;
    }

pub follow-requires-clause-longer : goal.follow-requires-clause-longer
follow-requires-clause-longer g c = ([], append-nil _ ∙ (ap (λ (d : Durable). d.inputs) c.args.self.now.held_is ∙ sym (ap (λ (d : DeskKept). (durable_part d).inputs) c.abandon.ensures)))

pub returns-clause-failed : goal.returns-clause-failed
returns-clause-failed g c = ap (λ (v : TieView). v.failed) c.follow.ensures.known ∙ ap (λ (d : DeskKept). d.view.failed) c.abandon.ensures

pub returns-clause-tie : goal.returns-clause-tie
returns-clause-tie g c =
    let old = c.args.self.now in
    ap (λ (v : TieView). v.durable) c.follow.ensures.known ∙ (ap durable_part c.abandon.ensures ∙ sym (ap (λ (v : TieView). v.durable) c.follow.ensures.equal ∙ old.held_is))

pub returns-clause-flies : goal.returns-clause-flies
returns-clause-flies g c =
    let old = c.args.self.now in
    ap (λ (v : TieView). v.flying) c.follow.ensures.known ∙ (ap flying_part c.abandon.ensures ∙ sym (ap (λ (v : TieView). v.flying) c.follow.ensures.equal ∙ old.flies))
