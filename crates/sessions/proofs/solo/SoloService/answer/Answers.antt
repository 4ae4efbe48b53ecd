use Rattle.std.proofs.Common.{inl, inr, sym, ap, subst, ◌∙◌, length, arith}
use Rattle.std.proofs.lemmas.Option.{same_Some}
use Rattle.ring_records.specs.Answer.{Answered}
use Rattle.ring_records.specs.States.{opened}
use Rattle.group_commit.specs.Desk.{DeskKept, IsHere}
use Rattle.group_commit.specs.Ticket.{TicketView, shown}
use Rattle.node_store.specs.Flying.{settled_base}
use Rattle.sessions.proofs.Asked.{one_waits, no_ticket, still_here, none_of}
use Rattle.sessions.proofs.solo.SoloService.answer.Goals as goal

pub returns-in-Err : goal.returns-in-Err
returns-in-Err g c =
    let works = sym c.is_some.ensures ∙ c.if-is_some.false in
    let opens = c.args.self.now.«open» (none_of _ works) in
    let told = c.in-Err.ensures in
    inl (record {
      works = works;
      cause = elim told.refusal [
        | inl why ↦ inl (no_ticket _ _ _ _ _ opens.0 opens.1 (c.requires _) why)
        | inr why ↦ inr why.1
      ];
      same = told.same;
      goes_on = works;
    })

pub settle-requires-clause-one : goal.settle-requires-clause-one
settle-requires-clause-one g c =
    let works = sym c.is_some.ensures ∙ c.if-is_some.false in
    let told = c.in-Ok.ensures.submitted in
    one_waits c.args.self.now.node.desk.view.state _ told.more (ap (λ (d : DeskKept). d.view.state) told.next) (c.args.self.now.durable (none_of _ works))

pub release-requires : goal.release-requires
release-requires g c =
    let told = c.in-Ok.ensures.submitted in
    let settled = c.in-Ok-settle.ensures in
    record {
      here = (
        told.given,
        still_here _ _ _ _ settled.stays told.here,
        omega (
          arith,
          told.number,
          ap (λ (d : DeskKept). d.opening.inputs) settled.next,
          ap (λ (d : DeskKept). d.opening.inputs) told.next,
          ap (λ (d : DeskKept). d.view.state.durable) settled.next,
          ap (λ (d : DeskKept). length d.view.state.inputs) told.next,
        ),
      );
    }

pub returns-in-Ok-settle : goal.returns-in-Ok-settle
returns-in-Ok-settle g c =
    let works = sym c.is_some.ensures ∙ c.if-is_some.false in
    let told = c.in-Ok.ensures.submitted in
    let settled = c.in-Ok-settle.ensures in
    let reply = c.release.ensures.reply told.given (still_here _ _ _ _ settled.stays told.here) in
    record {
      works = works;
      more = told.more;
      is = λ past is. let so = told.answer past is in (reply ∙ ap (λ (a : Answered). a.answer.reply) so.0, so.1);
      next = ap (λ (d : DeskKept). d.view.state) c.release.ensures.next ∙ ap (λ (d : DeskKept). d.view.state) settled.next ∙ ap (λ (d : DeskKept). opened (settled_base d) d.view.state.inputs) told.next;
      same = record {
        member = ap (λ (d : DeskKept). d.view.member) c.release.ensures.next ∙ ap (λ (d : DeskKept). d.view.member) settled.next ∙ ap (λ (d : DeskKept). d.view.member) told.next;
        opening = ap (λ (d : DeskKept). d.opening) c.release.ensures.next ∙ ap (λ (d : DeskKept). d.opening) settled.next ∙ ap (λ (d : DeskKept). d.opening) told.next;
        run = ap (λ (d : DeskKept). d.view.run) c.release.ensures.next ∙ ap (λ (d : DeskKept). d.view.run) settled.next ∙ ap (λ (d : DeskKept). d.view.run) told.next;
      };
      goes_on = works;
    }

pub invariant_of-self-in-Err-settle-clause-held : goal.invariant_of-self-in-Err-settle-clause-held
invariant_of-self-in-Err-settle-clause-held g c ticket is =
    let told = c.in-Ok.ensures.submitted in
    let same = ap shown (same_Some ticket c.in-Ok.ticket (sym is ∙ c.replace.ensures.after)) in
    let here = still_here _ _ _ _ c.in-Err-settle.ensures.stays told.here in
    ∣ (told.given, subst (λ (t : TicketView). IsHere c.settle.new.node.desk.view t told.given) (sym same) here) ∣₁
