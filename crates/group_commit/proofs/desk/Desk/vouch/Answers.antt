use Rattle.std.proofs.Common.{rules, ◌≡◌, ◌≤◌, ◌+◌, ◌-◌, ◌++◌, ◌∙◌, ℕ, inl, inr, List, length, take, drop, ap, sym, subst, arith}
use Rattle.ring_records.specs.declared.input.Input.{Input}
use Rattle.ring_records.specs.declared.reply.Reply.{Reply}
use Rattle.ring_records.specs.declared.summary.Summary.{Summary}
use Rattle.ring_records.specs.Answer.{Answer, Answered}
use Rattle.ring_records.specs.Answering.{answer}
use Rattle.ring_records.specs.Admission.{fresh}
use Rattle.ring_records.specs.Known.{after}
use Rattle.ring_records.specs.States.{launched_base}
use Rattle.group_commit.specs.Desk.{DeskKept, seen}
use Rattle.group_commit.specs.Past.{IsPast, shifted}
use Rattle.group_commit.specs.Outbox.{AreFree}
use Rattle.group_commit.specs.Vouch.{Accepts, IsGiven, IsInput, IsVouched}
use Rattle.group_commit.specs.declared.desk.Desk.TheInside.{Inside}
use Rattle.group_commit.proofs.Inside.{member_in, state_in, shown_by}
use Rattle.group_commit.proofs.KeptInputs.{after-part, input_kept, input_of}
use Rattle.group_commit.proofs.Landing.{free}
use Rattle.group_commit.proofs.Past.{free_since, follows-take}
use Rattle.group_commit.proofs.Vouching.{vouched-accepted, accepted-vouched, answer-past}
use Rattle.group_commit.proofs.desk.Desk.vouch.Goals as goal
use Rattle.group_commit.proofs.desk.Desk.vouch.Goals.{After-is_given, After-is_input}

-- no more inputs are gone than there are
gone_within : (d : Inside) → d.inputs.gone ≤ length d.inputs.all.list
gone_within d = search rules

-- the inputs that it kept
kept_items : (c : After-is_input) → c.deref.result.now ≡ drop c.self.inside.inputs.gone c.self.inside.inputs.all.list
kept_items c = c.deref.ensures.value ∙ c.self.inside.inputs.kept_is

-- what it knew by those that are gone
start_is : (d : Inside) (now : DeskKept) → shown_by d ≡ now → (s : Summary) → s ≡ after now.view.member.node now.opening (take now.gone now.view.state.inputs)
    → s ≡ after d.node d.base (take d.inputs.gone d.inputs.all.list)
start_is d now view s is = is ∙ ap (λ (v : DeskKept). after v.view.member.node v.opening (take v.gone v.view.state.inputs)) (sym view)

pub returns-in-Some-clause-yes : goal.returns-in-Some-clause-yes
returns-in-Some-clause-yes c = λ e.
    let d = c.self.inside in
    let a = c.args.stub.now in
    let number : a.answer.number ≡ c.stub.inside.number = ap (λ (s : Answered). s.answer.number) (sym c.stub.view_is) in
    let from : d.base.inputs + d.inputs.gone ≤ a.answer.number = search rules in
    let durable : a.answer.number - d.base.inputs ≤ d.durable = search rules in
    let there : IsInput (drop d.inputs.gone d.inputs.all.list) (a.answer.number - d.base.inputs - d.inputs.gone) c.in-Some.input =
    subst (λ (p : List Input × ℕ). IsInput p.0 (p.1 - d.base.inputs - d.inputs.gone) c.in-Some.input) (λ i. (kept_items (goal.at.returns-in-Some-clause-yes c).After-is_input i, sym number i)) (c.is_input.ensures.yes e) in
    let here = input_of d.inputs.gone (a.answer.number - d.base.inputs) d.inputs.all.list c.in-Some.input (gone_within d) there in
    let above = here.0 in
    let accepts : Accepts a.question a.answer.reply c.in-Some.input = search rules in
    subst (λ (v : DeskKept). (past : List Input) → IsPast v.view.member v.opening past → IsVouched v.view.member (v.opening.inputs + v.gone) (seen past v).state a) c.self.view_is (λ past is.
    vouched-accepted (member_in d) d.base.inputs d.inputs.gone past (state_in d) a c.in-Some.input (λ i. (is.summed i).inputs) (omega (arith, above)) durable accepts here.1)

pub returns-in-Some-clause-no : goal.returns-in-Some-clause-no
returns-in-Some-clause-no c = λ e.
    let d = c.self.inside in
    let a = c.args.stub.now in
    let number : a.answer.number ≡ c.stub.inside.number = ap (λ (s : Answered). s.answer.number) (sym c.stub.view_is) in
    let accepts : Accepts a.question a.answer.reply c.in-Some.input = search rules in
    subst (λ (v : DeskKept). (past : List Input) → IsPast v.view.member v.opening past → IsVouched v.view.member (v.opening.inputs + v.gone) (seen past v).state a → ⊥) c.self.view_is (λ past is vouched.
    let there = accepted-vouched (member_in d) d.base.inputs d.inputs.gone past (state_in d) a c.in-Some.input (λ i. (is.summed i).inputs) accepts vouched in
    let above = there.0 in
    let here = input_kept d.inputs.gone (a.answer.number - d.base.inputs) d.inputs.all.list c.in-Some.input (gone_within d) (omega (arith, above)) there.1 in
    c.is_input.ensures.no e (subst (λ (p : List Input × ℕ). IsInput p.0 (p.1 - d.base.inputs - d.inputs.gone) c.in-Some.input) (λ i. (sym (kept_items (goal.at.returns-in-Some-clause-no c).After-is_input) i, number i)) here))

-- the inputs that the core takes were allowed
pub core_of-requires-clause-free : goal.core_of-requires-clause-free
core_of-requires-clause-free c =
    let d = c.self.inside in
    let order : d.inputs.gone ≤ c.stub.inside.number - d.base.inputs = search rules in
    subst (λ (p : Summary × List Input). AreFree d.node d.n p.0 p.1) (λ i. (sym (start_is d c.args.self.now c.self.view_is c.start.result.now c.start.ensures.value) i, sym c.between-before.ensures i))
    (free d.node d.n d.inputs.gone (c.stub.inside.number - d.base.inputs) d.base d.inputs.all.list order (free_since (member_in d) d.base (launched_base (state_in d)) d.inputs.all.list c.self.invariant.state.all))

-- what a node without room replies, where this is its past
given : (c : After-is_given) (past : List Input) → IsPast (member_in c.self.inside) c.self.inside.base past → c.self.inside.base.inputs + c.self.inside.inputs.gone ≤ c.stub.inside.number
    → c.stub.inside.number - c.self.inside.base.inputs ≤ length c.self.inside.inputs.all.list
    → ◌≡◌ {A = Answer} (record { reply = c.reply_of.result; number = c.stub.inside.number })
    (answer c.self.inside.node c.self.inside.n 0 fresh (take c.stub.inside.number (past ++ c.self.inside.inputs.all.list)) c.stub.inside.question)
given c past is from within =
    let d = c.self.inside in
    let m = member_in d in
    let order : d.inputs.gone ≤ c.stub.inside.number - d.base.inputs = omega (arith, from) in
    let joins = (λ i. after d.node (start_is d c.args.self.now c.self.view_is c.start.result.now c.start.ensures.value i) (c.between-before.ensures i)) ∙ after-part d.node d.inputs.gone (c.stub.inside.number - d.base.inputs) d.base d.inputs.all.list order in
    let core = c.in-Ok.ensures ∙ (λ i. record { me = d.node; size = d.n; known = joins i }) in
    let known = (follows-take m d.base past d.inputs.all.list (c.stub.inside.number - d.base.inputs) is (free_since m d.base (launched_base (state_in d)) d.inputs.all.list c.self.invariant.state.all)).knows in
    answer-past m d.base.inputs past d.inputs.all.list c.in-Ok.core c.stub.inside.question c.reply_of.result c.stub.inside.number (λ i. (is.summed i).inputs) (omega (arith, from)) within (λ i. (core i).me) (λ i. (core i).size)
    ((λ i. (core i).known) ∙ known) c.reply_of.ensures

pub returns-in-Ok-clause-yes : goal.returns-in-Ok-clause-yes
returns-in-Ok-clause-yes c = λ e.
    let d = c.self.inside in
    let s = c.stub.inside in
    let m = member_in d in
    let state = state_in d in
    let from : d.base.inputs + d.inputs.gone ≤ s.number = search rules in
    let durable : s.number - d.base.inputs ≤ d.durable = search rules in
    let flown = c.self.invariant.state.counts.durable in
    let all = c.self.invariant.state.counts.flying in
    let given_by : IsGiven c.reply_of.result s.reply = search rules in
    subst (λ (v : DeskKept). (past : List Input) → IsPast v.view.member v.opening past → IsVouched v.view.member (v.opening.inputs + v.gone) (seen past v).state c.args.stub.now) c.self.view_is (λ past is.
    let first : d.base.inputs ≡ length past = λ i. (is.summed i).inputs in
    subst (λ (a : Answered). IsVouched m (d.base.inputs + d.inputs.gone) (shifted past state) a) c.stub.view_is (record {
      durable = omega (arith, from, durable, first);
      from = from;
      gives = (
          let full = given (goal.at.returns-in-Ok-clause-yes c).After-is_given past is from (omega (arith, durable, flown, all)) in
          inr (ap (λ (a : Answer). a.number) full, subst (λ (r : Reply). IsGiven r s.reply) (ap (λ (a : Answer). a.reply) full) given_by));
    }))

pub returns-in-Ok-clause-no : goal.returns-in-Ok-clause-no
returns-in-Ok-clause-no c = λ e.
    let d = c.self.inside in
    let s = c.stub.inside in
    let m = member_in d in
    let state = state_in d in
    let from : d.base.inputs + d.inputs.gone ≤ s.number = search rules in
    let durable : s.number - d.base.inputs ≤ d.durable = search rules in
    let flown = c.self.invariant.state.counts.durable in
    let all = c.self.invariant.state.counts.flying in
    subst (λ (v : DeskKept). (past : List Input) → IsPast v.view.member v.opening past → IsVouched v.view.member (v.opening.inputs + v.gone) (seen past v).state c.args.stub.now → ⊥) c.self.view_is (λ past is vouched.
    let here = subst (λ (a : Answered). IsVouched m (d.base.inputs + d.inputs.gone) (shifted past state) a) (sym c.stub.view_is) vouched in
    elim here.gives [
      | inl accepted ↦ search rules
      | inr full ↦ (
          let told = given (goal.at.returns-in-Ok-clause-no c).After-is_given past is from (omega (arith, durable, flown, all)) in
          let yes : IsGiven c.reply_of.result s.reply = subst (λ (r : Reply). IsGiven r s.reply) (sym (ap (λ (a : Answer). a.reply) told)) full.1 in
          search rules)
    ])
