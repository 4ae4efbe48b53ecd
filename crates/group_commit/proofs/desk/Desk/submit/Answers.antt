use Rattle.std.proofs.Common.{rules, append-nil, ◌≡◌, ◌∙◌, ◌+◌, ◌-◌, ◌≤◌, ◌∷◌, ◌++◌, ℕ, List, [], refl, sym, ap, subst, length, take, drop, nat_eq, true, is_ok, is_err, None, arith}
use Rattle.std.specs.List.{cons_option}
use Rattle.std.specs.Map.{lookup, remove_entry}
use Rattle.ring_records.specs.declared.input.Input.{Input}
use Rattle.ring_records.specs.Answer.{Answered}
use Rattle.ring_records.specs.Known.{after}
use Rattle.ring_records.specs.States.{NodeState}
use Rattle.ring_records.specs.Serving.{gained_by}
use Rattle.node_core.specs.Core.{Refuses}
use Rattle.group_commit.specs.Desk.{DeskKept, IsSubmitted, answered, seen}
use Rattle.group_commit.specs.declared.desk.Desk.TheInside.{Inside}
use Rattle.group_commit.specs.Inputs.{IsKept}
use Rattle.group_commit.specs.Kept.{AreBelow, AreAnswers, HoldsFor, state_with}
use Rattle.group_commit.specs.Outbox.{Holds}
use Rattle.group_commit.specs.Past.{IsPast}
use Rattle.group_commit.specs.Since.{IsKnownState}
use Rattle.group_commit.specs.CoreOf.{core_in}
use Rattle.group_commit.specs.Ticket.{ticket_with}
use Rattle.group_commit.specs.DeskCalls.{answered_with}
use Rattle.group_commit.proofs.Inside.{member_in, area_in, state_in}
use Rattle.group_commit.proofs.KeptInputs.{counted, kept_more}
use Rattle.group_commit.proofs.Landing.{waits_more}
use Rattle.group_commit.proofs.Numbers.{undone, found_last, below_next, few_issued}
use Rattle.group_commit.proofs.Opening.{on_ok, on_err, if_some}
use Rattle.group_commit.proofs.Past.{given_is}
use Rattle.group_commit.proofs.Replies.{IsAnswerOf, answer_now, answers_longer, answers_next}
use Rattle.group_commit.proofs.Seen.{lawful_known}
use Rattle.group_commit.proofs.Since.{knows_front, known_more, core_more}
use Rattle.group_commit.proofs.Settling.{holds_gained, holds_with}
use Rattle.group_commit.proofs.desk.Desk.submit.Goals as goal
use Rattle.group_commit.proofs.desk.Desk.submit.Goals.{After-take_back, After-accept}

-- the desk with these inputs and tickets
abbrev shown_by : Inside → List Input → List (ℕ × Answered) → DeskKept
shown_by d inputs tickets = record {
  opening = d.base;
  view = record { member = member_in d; run = d.run; state = state_with (area_in d) inputs d.durable d.flying d.pending; tickets = tickets; issued = d.issued; closed = d.is_closed; failed = d.is_failed };
  gone = d.inputs.gone;
}

-- its state with these inputs
abbrev state_for : Inside → List Input → NodeState
state_for d inputs = state_with (area_in d) inputs d.durable d.flying d.pending

abbrev next_by : Inside → List Input → List (ℕ × Answered) → DeskKept
next_by d inputs tickets = record (shown_by d inputs tickets) { view = record ((shown_by d inputs tickets).view) { issued = d.issued + 1 } }

-- what is taken back was not there before
same_tickets : (c : After-take_back) → c.take_back.new.tickets.entries ≡ c.self.inside.tickets.entries
same_tickets c =
    let d = c.self.inside in
    let kept : is_ok c.keep.result ≡ true = search rules in
    c.take_back.ensures ∙ ap (remove_entry (nat_eq d.issued)) (on_ok c.keep.result kept c.keep.ensures.kept) ∙ undone d.issued _ d.tickets.entries c.self.invariant.given

pub invariant_of-self-then-is_err-2 : goal.invariant_of-self-then-is_err-2
invariant_of-self-then-is_err-2 c =
    let i = c.self.invariant in
    let d = c.self.inside in
    let m = member_in d in
    let failed : is_err c.accept.result ≡ true = search rules in
    let same = on_err c.accept.result failed c.accept.ensures.err in
    let tickets = sym (same_tickets (goal.at.invariant_of-self-then-is_err-2 c).After-take_back) in
    record {
      sound = i.sound;
      knows = same.1 ∙ (i.knows ∙ ap (λ l. core_in m d.base (state_for d l)) (sym same.0));
      state = subst (λ l. IsKnownState m d.base (state_for d l)) (sym same.0) i.state;
      holds = subst (λ (l : List Input). HoldsFor d.node c.accept.new.outbox d.base (take d.durable l) (drop d.durable l) (d.flying - d.durable)) (sym same.0) (holds_with d.node _ d.outbox c.accept.new.outbox _ _ (on_err c.accept.result failed c.accept.ensures.same) i.holds);
      kept = (
          let all = subst (λ l. IsKept m d.base (state_for d l) c.accept.new.inputs) (append-nil d.inputs.all.list) (kept_more m d.base (state_in d) [] d.inputs c.accept.new.inputs i.state c.accept.ensures.marks i.kept) in
          subst (λ l. IsKept m d.base (state_for d l) c.accept.new.inputs) (sym same.0) all);
      given = subst (λ (ts : List (ℕ × Answered)). AreBelow c.self.inside.issued ts) tickets i.given;
      answers = (let same_inputs = sym same.0 in subst (λ (p : List Input × List (ℕ × Answered)). AreAnswers m d.base p.0 p.1) (λ k. (same_inputs k, tickets k)) i.answers);
    }

pub returns-then-is_err-2-clause-same : goal.returns-then-is_err-2-clause-same
returns-then-is_err-2-clause-same c =
    let failed : is_err c.accept.result ≡ true = search rules in
    let items = (on_err c.accept.result failed c.accept.ensures.err).0 in
    let same = same_tickets (goal.at.returns-then-is_err-2-clause-same c).After-take_back in
    let gone = c.accept.ensures.marks.gone in
    (λ i. record (shown_by c.self.inside (items i) (same i)) { gone = gone i }) ∙ c.self.view_is

-- the number of the inputs that the answer rests on
number_is : (c : After-accept) → c.self.inside.base.inputs + c.count_with.result ≡ c.self.inside.base.inputs + length (c.self.inside.inputs.all.list ++ cons_option c.judge.result.1 [])
number_is c = ap (λ n. c.self.inside.base.inputs + n) c.count_with.ensures

-- what is kept for the ticket
abbrev kept_by : After-accept → Answered
kept_by c = answered_with c.args.question c.judge.result.0 (c.self.inside.base.inputs + c.count_with.result)

-- it is what a node with this past answers, and what is accepted is what its history gains
answers_past : (c : After-accept) (past : List Input) → IsPast (member_in c.self.inside) c.self.inside.base past
    → (kept_by c ≡ answered (seen past (shown_by c.self.inside c.self.inside.inputs.all.list c.self.inside.tickets.entries)) c.args.question)
    × (cons_option c.judge.result.1 [] ≡ gained_by (member_in c.self.inside) (seen past (shown_by c.self.inside c.self.inside.inputs.all.list c.self.inside.tickets.entries)).state c.args.question)
answers_past c past is =
    let d = c.self.inside in
    let i = c.self.invariant in
    given_is (member_in d) d.base past (state_in d) d.core c.args.question c.judge.result.0 c.judge.result.1 _ is i.state i.knows c.judge.ensures.replies (number_is c)

-- the ticket stands behind the others
tickets_are : (c : After-accept) → c.keep.new.tickets.entries ≡ c.self.inside.tickets.entries ++ (c.self.inside.issued, kept_by c) ∷ []
tickets_are c =
    let kept : is_ok c.keep.result ≡ true = search rules in
    on_ok c.keep.result kept c.keep.ensures.kept

-- the outbox holds what it held, and what is accepted waits
holds_more : (c : After-accept) → is_ok c.accept.result ≡ true
    → HoldsFor c.self.inside.node c.accept.new.outbox c.self.inside.base (take c.self.inside.durable c.accept.new.inputs.all.list) (drop c.self.inside.durable c.accept.new.inputs.all.list) (c.self.inside.flying - c.self.inside.durable)
holds_more c accepted =
    let d = c.self.inside in
    let i = c.self.invariant in
    let me : d.core.me ≡ d.node = λ k. (i.knows k).me in
    let s = after d.node d.base (take d.durable d.inputs.all.list) in
    let waits = drop d.durable d.inputs.all.list in
    let more = cons_option c.judge.result.1 [] in
    let within : d.durable ≤ length d.inputs.all.list = (let a = i.state.counts.durable in let b = i.state.counts.flying in omega arith) in
    let holds = holds_gained d.core.me (d.flying - d.durable) d.outbox c.accept.new.outbox s waits d.core.known c.judge.result.1 (subst (λ n. d.core.known ≡ after n s waits) (sym me) (knows_front (member_in d) d.base (state_in d) d.core d.durable i.knows)) (on_ok c.accept.result accepted c.accept.ensures.waits) in
    subst (λ (l : List Input). HoldsFor d.node c.accept.new.outbox d.base (take d.durable l) (drop d.durable l) (d.flying - d.durable)) (sym (on_ok c.accept.result accepted c.accept.ensures.inputs))
    (waits_more d.node (d.flying - d.durable) c.accept.new.outbox d.base d.inputs.all.list more d.durable within
    (subst (λ n. Holds n d.outbox s waits (d.flying - d.durable) → Holds n c.accept.new.outbox s (waits ++ more) (d.flying - d.durable)) me holds i.holds))

pub invariant_of-self-2 : goal.invariant_of-self-2
invariant_of-self-2 c =
    let d = c.self.inside in
    let i = c.self.invariant in
    let m = member_in d in
    let more = cons_option c.judge.result.1 [] in
    let a = (goal.at.invariant_of-self-2 c).After-accept in
    let accepted : is_ok c.accept.result ≡ true = search rules in
    let inputs = on_ok c.accept.result accepted c.accept.ensures.inputs in
    let answers_now : IsAnswerOf m d.base (d.inputs.all.list ++ more) (kept_by a) = λ past is.
    let given = answers_past a past is in
    answer_now m past (state_in d) c.args.question (kept_by a) more (lawful_known m d.base past (state_in d) is i.state) given.0 given.1 in
    record {
      sound = i.sound;
      knows = core_more m d.base (state_in d) d.core c.accept.new.core more i.state i.knows (on_ok c.accept.result accepted c.accept.ensures.knows) ∙ ap (λ l. core_in m d.base (state_for d l)) (sym inputs);
      state = subst (λ l. IsKnownState m d.base (state_for d l)) (sym inputs)
          (known_more m d.base (state_in d) d.core c.judge.result.1 i.knows (if_some (λ (x : Input). Refuses d.core x None) c.judge.result.1 c.judge.ensures.free) i.state);
      holds = holds_more a accepted;
      kept = subst (λ l. IsKept m d.base (state_for d l) c.accept.new.inputs) (sym inputs) (kept_more m d.base (state_in d) more d.inputs c.accept.new.inputs i.state c.accept.ensures.marks i.kept);
      given = subst (λ (ts : List (ℕ × Answered)). AreBelow (c.self.inside.issued + 1) ts) (sym (tickets_are a)) (below_next _ _ _ i.given);
      answers = subst (λ (p : List Input × List (ℕ × Answered)). AreAnswers m d.base p.0 p.1) (λ k. (sym inputs k, sym (tickets_are a) k))
          (answers_next m d.base (d.inputs.all.list ++ more) d.issued _ d.tickets.entries (answers_longer m d.base d.inputs.all.list more d.tickets.entries i.answers) answers_now);
    }

pub overflow_add-self : goal.overflow_add-self
overflow_add-self c =
    let none : c.objection.result ≡ None = search rules in
    let few = few_issued c.args.self.now.view c.args.question (sym c.objection.ensures ∙ none) in
    let same : c.args.self.now.view.issued ≡ c.self.inside.issued = ap (λ (v : DeskKept). v.view.issued) (sym c.self.view_is) in
    search rules

pub returns-clause-submitted : goal.returns-clause-submitted
returns-clause-submitted c =
    let d = c.self.inside in
    let a = (goal.at.returns-clause-submitted c).After-accept in
    let accepted : is_ok c.accept.result ≡ true = search rules in
    let inputs = on_ok c.accept.result accepted c.accept.ensures.inputs in
    let given = kept_by a in
    let more = c.judge.result.1 in
    subst (λ (v : DeskKept). IsSubmitted c.args.question v (record (next_by d c.accept.new.inputs.all.list c.keep.new.tickets.entries) { gone = c.accept.new.inputs.gone }) (ticket_with d.node d.run d.issued given)) c.self.view_is (record {
      given = given;
      more = more;
      ticket_is = refl;
      question = refl;
      number = number_is a;
      next = λ k. record (next_by d (inputs k) (tickets_are a k)) { gone = c.accept.ensures.marks.gone k };
      here = record { node = refl; run = refl; own = ap (λ (ts : List (ℕ × Answered)). lookup (nat_eq d.issued) ts) (tickets_are a) ∙ found_last d.issued _ d.tickets.entries c.self.invariant.given; question = refl };
      answer = answers_past a;
    })

pub accept-requires-clause-counted : goal.accept-requires-clause-counted
accept-requires-clause-counted c = counted (member_in c.self.inside) c.self.inside.base (state_in c.self.inside) c.self.inside.core c.self.invariant.knows
