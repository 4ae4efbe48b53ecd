use Rattle.std.proofs.Common.{sym, ap, ◌∙◌, subst}
use Rattle.std.specs.Prelude.{ℕ, ◌≡◌, Option, None, Ok, MatchOption}
use Rattle.ring_records.specs.declared.refusal.Refusal.{Refusal}
use Rattle.ring_records.specs.declared.reply.Reply.TheVariants as replied
use Rattle.ring_records.specs.declared.request.Request.TheVariants as ask
use Rattle.ring_service.specs.Entry.{IsAsked, latest_in, objection_to}
use Rattle.ring_service.proofs.entry.EntryService.decide_stand.Goals as goal

pub returns-in-None-clause-decided : goal.returns-in-None-clause-decided
returns-in-None-clause-decided g c =
    let leap = c.args.self.now.leap in
    let term = c.args.key.term in
    let between = c.latest-told.new.self in
    let free : None ≡ objection_to leap (latest_in c.latest-told.result) c.look-look.result term =
    sym c.in-None.is ∙ (c.objection_to.ensures ∙ ap (λ (latest : ℕ). objection_to leap latest c.look-look.result term) c.latest_in.ensures.value) in record {
      told = c.latest-told.result;
      between = between;
      latest = c.latest-told.ensures;
      look = c.look-look.result;
      shown = c.look-look.ensures;
      decided = subst (λ (o : Option Refusal). MatchOption o (IsAsked g.S.Service.answers between (ask.Stand c.args.key c.args.bid) c.ask_for_room.result c.ask_for_room.new.self.service)
          (λ why. (c.ask_for_room.result ≡ Ok (replied.Refused why)) × (c.ask_for_room.new.self.service ≡ between))) free c.ask_for_room.ensures.asked;
    }
