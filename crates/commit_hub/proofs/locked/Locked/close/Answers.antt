use Rattle.std.proofs.Common.{◌≡◌, ◌+◌, true, length, sym, ap, ◌∙◌, subst}
use Rattle.std.proofs.lemmas.Bool.{and_parts}
use Rattle.ring_records.specs.Lawful.{IsNodeState}
use Rattle.group_commit.specs.Desk.{DeskKept}
use Rattle.commit_hub.specs.Desks.{flying_part, is_done}
use Rattle.group_commit.specs.Next.{durable_part}
use Rattle.commit_hub.specs.Works.{IsNextArea}
use Rattle.commit_hub.proofs.locked.Locked.close.Goals as goal

pub invariant_of-self : goal.invariant_of-self
invariant_of-self g c =
    let old = c.args.self.now in
    let desk = old.shared.desk in
    let next : c.close.new.self ≡ record desk { view = record desk.view { closed = true } } = c.close.ensures in
    record {
      of = ap (λ (d : DeskKept). d.view.member) next ∙ old.of;
      opening = ap (λ (d : DeskKept). d.opening) next ∙ old.opening;
      counts = subst (λ (d : DeskKept). IsNodeState d.view.state) (sym next) old.counts;
      counted = old.counted ∙ sym (ap (λ (d : DeskKept). d.opening.inputs + length d.view.state.inputs) next);
      first_is = old.first_is;
      spare_is = old.spare_is;
      named = old.named;
      held_is = old.held_is ∙ sym (ap durable_part next);
      flies = old.flies ∙ sym (ap flying_part next);
      fails = old.fails ∙ sym (ap (λ (d : DeskKept). d.view.failed) next);
      done = λ done. ap is_done next ∙ (and_parts desk.view.closed _ (old.done done)).1;
      next_is = subst (λ (d : DeskKept). IsNextArea d.view.state) (sym next) old.next_is;
    }
