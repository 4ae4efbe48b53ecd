use Rattle.std.proofs.Common.{true, ◌≡◌, ◌⊎◌, ◌+◌, ◌≤◌, [], length, take, append-nil, false, sym, ap, ◌∙◌, subst, arith, Option, Some, None, IfErr, IfNone, IfOk, OnOk}
use Rattle.std.specs.Prelude.{MatchOption}
use Rattle.commit_hub.specs.Holders.{known_by}
use Rattle.group_commit.specs.Next.{Durable, durable_part}
use Rattle.commit_hub.specs.Ties.{TieView}
use Rattle.group_commit.proofs.Costs.{durable_count}
use Rattle.ring_records.specs.declared.refusal.Refusal.{Refusal}
use Rattle.ring_records.specs.declared.refusal.Refusal.TheVariants as refused
use Rattle.ring_records.specs.Lawful.{IsNodeState}
use Rattle.group_commit.specs.Desk.{DeskKept}
use Rattle.group_commit.specs.Launching.{launch_objection}
use Rattle.commit_hub.specs.Desks.{flying_part, is_resting}
use Rattle.commit_hub.specs.Over.{launch_refusal}
use Rattle.gated_journal.specs.Works.{flown_by}
use Rattle.commit_hub.proofs.Ties.{launch_done, launch_flies, on_err, refusal_is}
use Rattle.commit_hub.proofs.Works.{fits_next, launches, none_waits}
use Rattle.commit_hub.proofs.locked.Locked.launch.Goals as goal

pub invariant_of-self : goal.invariant_of-self
invariant_of-self g c =
    let old = c.args.self.now in
    let desk = old.shared.desk in
    let l = launches old.is_wanted c.launch_next-launched.result desk c.launch_next-launched.new.self old.counts old.next_is c.launch_next-launched.ensures.next c.launch_next-launched.ensures.free c.launch_next-launched.ensures.same in
    record {
      of = l.member ∙ old.of;
      opening = l.opening ∙ old.opening;
      counts = l.counts;
      counted = c.audit.ensures.total ∙ (old.counted ∙ sym (λ i. (l.opening i).inputs + length (l.inputs i)));
      first_is = (c.audit.ensures.parts ∙ old.first_is.0, c.audit.ensures.amount ∙ old.first_is.1, old.first_is.2);
      spare_is = old.spare_is;
      named = c.follow.ensures.held_name ∙ old.named;
      held_is = ap (λ (v : TieView). v.durable) c.follow.ensures.held;
      flies = ap (λ (v : TieView). v.flying) c.follow.ensures.held;
      fails = ap (λ (v : TieView). v.failed) c.follow.ensures.held;
      done = λ done. sym (ap (λ (v : TieView). v.done) c.follow.ensures.held) ∙ done;
      next_is = l.next;
    }

-- what a desk has durable stays behind a launch
pub follow-requires-clause-longer : goal.follow-requires-clause-longer
follow-requires-clause-longer g c =
    let old = c.args.self.now in
    let desk = old.shared.desk in
    let l = launches old.is_wanted c.launch_next-launched.result desk c.launch_next-launched.new.self old.counts old.next_is c.launch_next-launched.ensures.next c.launch_next-launched.ensures.free c.launch_next-launched.ensures.same in
    ([], append-nil _ ∙ (ap (λ (d : Durable). d.inputs) old.held_is ∙ sym (λ i. take (l.durable i) (l.inputs i))))

-- why nothing is launched, as the tie knows it
objected : (knows : TieView) (v : TieView) (desk : DeskKept) → knows ≡ v → v.failed ≡ desk.view.failed → v.flying ≡ flying_part desk → IsNodeState desk.view.state
    → launch_refusal knows.failed knows.flying ≡ launch_objection desk.view
objected knows v desk equal fails flies counts = ap (λ (k : TieView). launch_refusal k.failed k.flying) equal ∙ ((λ i. launch_refusal (fails i) (flies i)) ∙ refusal_is desk counts)

pub returns-clause-tied : goal.returns-clause-tied
returns-clause-tied g c = record {
  next =
      let old = c.args.self.now in
      fits_next c.launch_next-launched.result old.shared.desk _ _ _ old.of old.opening (sym old.held_is ∙ sym (ap (λ (v : TieView). v.durable) c.follow.ensures.equal)) c.launch_next-launched.ensures.fits;
  none =
      let old = c.args.self.now in
      let desk = old.shared.desk in
      let count = ap (λ (d : Durable). length d.inputs) (ap (λ (v : TieView). v.durable) c.follow.ensures.equal ∙ old.held_is) ∙ durable_count desk.view.state old.counts in
      let durable : g.A.NodeLedger.opening.inputs + length (known_by c.args.tie.now).inputs ≡ desk.opening.inputs + desk.view.state.durable = (λ i. (sym old.opening i).inputs + count i) in
      let within : g.A.NodeLedger.opened ≤ desk.opening.inputs + length desk.view.state.inputs = omega (arith, c.audit.ensures.bound, old.first_is.1, old.first_is.2, old.counted) in
      none_waits old.is_wanted c.launch_next-launched.result desk c.launch_next-launched.new.self _ _ c.launch_next-launched.ensures.work durable within;
  flies =
      let old = c.args.self.now in
      subst (λ (v : TieView). IfOk c.launch_next-launched.result (λ some. MatchOption some (launch_refusal v.failed v.flying ≡ None) (λ work. v.flying ≡ flown_by work)))
      (sym c.follow.ensures.known)
      (launch_flies old.is_wanted c.launch_next-launched.result old.shared.desk c.launch_next-launched.new.self old.counts c.launch_next-launched.ensures.free c.launch_next-launched.ensures.next c.launch_next-launched.ensures.work);
  cause =
      let old = c.args.self.now in
      subst (λ (o : Option Refusal). IfErr c.launch_next-launched.result (λ why. (o ≡ Some why) ⊎ ((o ≡ None) × (why ≡ refused.OutOfMemory))))
      (sym (objected _ _ old.shared.desk c.follow.ensures.equal old.fails old.flies old.counts)) c.launch_next-launched.ensures.refusal;
  idle =
      let old = c.args.self.now in
      subst (λ (o : Option Refusal). OnOk c.launch_next-launched.result (o ≡ None))
      (sym (objected _ _ old.shared.desk c.follow.ensures.equal old.fails old.flies old.counts)) c.launch_next-launched.ensures.free;
  based =
      let old = c.args.self.now in
      let s = old.shared.desk.view.state in
      let within : (durable_part old.shared.desk).base.inputs ≤ length (durable_part old.shared.desk).inputs = omega (arith, old.counts.based, durable_count s old.counts) in
      subst (λ (d : Durable). d.base.inputs ≤ length d.inputs) (sym old.held_is ∙ sym (ap (λ (v : TieView). v.durable) c.follow.ensures.equal)) within;
  tie =
      let old = c.args.self.now in
      let desk = old.shared.desk in
      let l = launches old.is_wanted c.launch_next-launched.result desk c.launch_next-launched.new.self old.counts old.next_is c.launch_next-launched.ensures.next c.launch_next-launched.ensures.free c.launch_next-launched.ensures.same in
      ap (λ (v : TieView). v.durable) c.follow.ensures.known ∙ ((λ i. record { base = l.base i; inputs = take (l.durable i) (l.inputs i) }) ∙ sym (ap (λ (v : TieView). v.durable) c.follow.ensures.equal ∙ old.held_is));
  works =
      let old = c.args.self.now in
      let desk = old.shared.desk in
      let l = launches old.is_wanted c.launch_next-launched.result desk c.launch_next-launched.new.self old.counts old.next_is c.launch_next-launched.ensures.next c.launch_next-launched.ensures.free c.launch_next-launched.ensures.same in
      ap (λ (v : TieView). v.failed) c.follow.ensures.known ∙ (l.failed ∙ sym (ap (λ (v : TieView). v.failed) c.follow.ensures.equal ∙ old.fails));
  waits =
      let old = c.args.self.now in
      on_err c.launch_next-launched.result _ _ (λ (same : c.launch_next-launched.new.self ≡ old.shared.desk).
      ap (λ (k : TieView). launch_refusal k.failed k.flying) c.follow.ensures.known
      ∙ (ap (λ (d : DeskKept). launch_refusal d.view.failed (flying_part d)) same
      ∙ sym (ap (λ (k : TieView). launch_refusal k.failed k.flying) c.follow.ensures.equal ∙ (λ i. launch_refusal (old.fails i) (old.flies i))))) c.launch_next-launched.ensures.same;
}

pub returns-clause-done : goal.returns-clause-done
returns-clause-done g c =
    let old = c.args.self.now in
    subst (λ (v : TieView). IfOk c.launch_next-launched.result (λ some. IfNone some (is_resting old.is_wanted old.shared.desk ≡ false → v.done ≡ true)))
    (sym c.follow.ensures.known)
    (launch_done old.is_wanted c.launch_next-launched.result old.shared.desk c.launch_next-launched.new.self old.counts c.launch_next-launched.ensures.free c.launch_next-launched.ensures.next c.launch_next-launched.ensures.work)
