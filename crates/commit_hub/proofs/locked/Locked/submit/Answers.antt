use Rattle.std.proofs.Common.{rules, ◌≡◌, ◌+◌, [], length, sym, ap, ◌∙◌, subst}
use Rattle.std.specs.List.{cons_option}
use Rattle.group_commit.specs.Desk.{DeskKept, IsSubmitted, with_ticket}
use Rattle.group_commit.specs.Ticket.{shown}
use Rattle.std.proofs.lemmas.Bool.{and_parts, both_ways, or_parts}
use Rattle.commit_hub.specs.Desks.{flying_part}
use Rattle.group_commit.specs.Next.{durable_part}
use Rattle.commit_hub.specs.Works.{IsNextArea}
use Rattle.commit_hub.proofs.Requests.{durable_stays, flying_stays, grows, takes_requests}
use Rattle.commit_hub.proofs.locked.Locked.submit.Goals as goal

pub invariant_of-self-in-Ok : goal.invariant_of-self-in-Ok
invariant_of-self-in-Ok g c =
    let old = c.args.self.now in
    let desk = old.shared.desk in
    let s : IsSubmitted c.args.question desk c.submit.new.self (shown c.in-Ok.ticket) = c.in-Ok.ensures.submitted in
    let next : c.submit.new.self ≡ record desk { view = with_ticket s.given s.more desk.view } = s.next in
    let grown = grows c.args.question desk c.submit.new.self (shown c.in-Ok.ticket) s in
    let from : c.submit.new.self.opening.inputs ≡ desk.opening.inputs = ap (λ (d : DeskKept). d.opening.inputs) next in
    let counted : c.add.new.self.total ≡ c.submit.new.self.opening.inputs + length c.submit.new.self.view.state.inputs = search (rules, grown, from) in
    record {
      of = ap (λ (d : DeskKept). d.view.member) next ∙ old.of;
      opening = ap (λ (d : DeskKept). d.opening) next ∙ old.opening;
      counts = c.accepted.ensures.counts;
      counted = counted;
      first_is = old.first_is;
      spare_is = old.spare_is;
      named = old.named;
      held_is = old.held_is ∙ sym (ap durable_part next ∙ (λ i. record { base = desk.view.state.base; inputs = durable_stays desk.view.state (cons_option s.more []) old.counts i }));
      flies = old.flies ∙ sym (ap flying_part next ∙ flying_stays desk (cons_option s.more []) old.counts);
      fails = old.fails ∙ sym (ap (λ (d : DeskKept). d.view.failed) next);
      done = λ done. absurd (both_ways _ (or_parts desk.view.closed desk.view.failed (takes_requests desk.view c.args.question c.in-Ok.ensures.free)).0 (and_parts desk.view.closed _ (old.done done)).0);
      next_is = subst (λ (d : DeskKept). IsNextArea d.view.state) (sym next) old.next_is;
    }
