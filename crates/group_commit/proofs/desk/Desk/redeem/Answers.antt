use Rattle.std.proofs.Common.{rules, ℕ, ◌≡◌, ◌≤◌, ◌+◌, List, length, nat_eq, ap, ◌∙◌, sym, subst, arith}
use Rattle.std.specs.Map.{lookup}
use Rattle.ring_records.specs.Answer.{Answered}
use Rattle.ring_records.specs.States.{durable_in}
use Rattle.group_commit.specs.Desk.{DeskKept, IsAnswer}
use Rattle.group_commit.specs.Past.{IsPast}
use Rattle.ring_records.specs.declared.input.Input.{Input}
use Rattle.group_commit.specs.Kept.{AreBelow, AreAnswers}
use Rattle.group_commit.specs.DeskCalls.{answered_with}
use Rattle.group_commit.proofs.Inside.{member_in, state_in}
use Rattle.group_commit.proofs.Numbers.{below_without}
use Rattle.group_commit.proofs.Replies.{answer_durable, answers_without, answers_at}
use Rattle.group_commit.proofs.desk.Desk.redeem.Goals as goal

pub invariant_of-self : goal.invariant_of-self
invariant_of-self c =
    let d = c.self.inside in
    let i = c.self.invariant in
    record {
      sound = i.sound;
      knows = i.knows;
      state = i.state;
      holds = i.holds;
      kept = i.kept;
      given = subst (λ (ts : List (ℕ × Answered)). AreBelow c.self.inside.issued ts) (sym c.take_back.ensures) (below_without _ _ _ i.given);
      answers = subst (λ (ts : List (ℕ × Answered)). AreAnswers (member_in d) d.base d.inputs.all.list ts) (sym c.take_back.ensures) (answers_without (member_in d) d.base d.inputs.all.list c.args.ticket.own d.tickets.entries i.answers);
    }

pub returns : goal.returns
returns c =
    let d = c.self.inside in
    let own = c.args.ticket.own in
    let kept = answered_with c.args.ticket.question c.in-Some.reply c.in-Some.number in
    let here = ap (λ (v : DeskKept). lookup (nat_eq own) v.view.tickets) c.self.view_is ∙ c.in-Some.ensures.own in
    let few : c.in-Some.number ≤ c.args.self.now.opening.inputs + c.args.self.now.view.state.durable = search rules in
    let answer = subst (λ (v : DeskKept). kept.answer.number ≤ v.opening.inputs + v.view.state.durable → (past : List Input) → IsPast v.view.member v.opening past → IsAnswer v.view.member past (durable_in v.view.state) kept)
    c.self.view_is
    (λ few past is.
    let front : d.base.inputs ≡ length past = λ k. (is.summed k).inputs in
    answer_durable (member_in d) past (state_in d) kept (omega (arith, few, front)) (answers_at (member_in d) d.base d.inputs.all.list own kept d.tickets.entries c.self.invariant.answers here past is))
    few in
    record {
      released = search rules;
      reply = search rules;
      durable = search rules;
      answer = answer;
      next = search rules;
      refusal = tt;
      back = tt;
      same = tt;
    }
