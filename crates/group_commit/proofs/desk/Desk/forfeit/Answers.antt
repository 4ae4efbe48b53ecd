use Rattle.std.proofs.Common.{ℕ, List, sym, subst}
use Rattle.ring_records.specs.Answer.{Answered}
use Rattle.group_commit.specs.Kept.{AreBelow, AreAnswers}
use Rattle.group_commit.proofs.Inside.{member_in}
use Rattle.group_commit.proofs.Numbers.{below_without}
use Rattle.group_commit.proofs.Replies.{answers_without}
use Rattle.group_commit.proofs.desk.Desk.forfeit.Goals as goal

pub invariant_of-self : goal.invariant_of-self
invariant_of-self c =
    let d = c.self.inside in
    let i = c.self.invariant in
    record {
      sound = i.sound;
      knows = i.knows;
      state = i.state;
      holds = i.holds;
      kept = i.kept;
      given = subst (λ (ts : List (ℕ × Answered)). AreBelow c.self.inside.issued ts) (sym c.take_back.ensures) (below_without _ _ _ i.given);
      answers = subst (λ (ts : List (ℕ × Answered)). AreAnswers (member_in d) d.base d.inputs.all.list ts) (sym c.take_back.ensures) (answers_without (member_in d) d.base d.inputs.all.list c.args.ticket.own d.tickets.entries i.answers);
    }
