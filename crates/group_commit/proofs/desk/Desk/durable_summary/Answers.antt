use Rattle.std.proofs.Common.{IfOk, ◌≡◌, ◌≤◌, ◌∙◌, List, take, ap, sym, subst, arith}
use Rattle.ring_records.specs.declared.input.Input.{Input}
use Rattle.ring_records.specs.declared.summary.Summary.{Summary}
use Rattle.ring_records.specs.Known.{after}
use Rattle.ring_records.specs.States.{durable_in, launched_base}
use Rattle.group_commit.specs.Desk.{DeskKept}
use Rattle.group_commit.specs.Outbox.{AreFree}
use Rattle.group_commit.proofs.Inside.{member_in, state_in}
use Rattle.group_commit.proofs.KeptInputs.{after-part}
use Rattle.group_commit.proofs.Landing.{free}
use Rattle.group_commit.proofs.Past.{free_since}
use Rattle.group_commit.proofs.desk.Desk.durable_summary.Goals as goal

pub core_of-requires-clause-free : goal.core_of-requires-clause-free
core_of-requires-clause-free c =
    let d = c.self.inside in
    let order : d.inputs.gone ≤ d.durable = (let g = c.self.invariant.kept.gone in let b = c.self.invariant.state.counts.based in omega arith) in
    let starts = c.start.ensures.value ∙ ap (λ (v : DeskKept). after v.view.member.node v.opening (take v.gone v.view.state.inputs)) (sym c.self.view_is) in
    subst (λ (p : Summary × List Input). AreFree d.node d.n p.0 p.1) (λ i. (sym starts i, sym c.between-durable.ensures i))
    (free d.node d.n d.inputs.gone d.durable d.base d.inputs.all.list order (free_since (member_in d) d.base (launched_base (state_in d)) d.inputs.all.list c.self.invariant.state.all))

pub returns : goal.returns
returns c =
    let d = c.self.inside in
    let order : d.inputs.gone ≤ d.durable = (let g = c.self.invariant.kept.gone in let b = c.self.invariant.state.counts.based in omega arith) in
    let starts = c.start.ensures.value ∙ ap (λ (v : DeskKept). after v.view.member.node v.opening (take v.gone v.view.state.inputs)) (sym c.self.view_is) in
    let knows : c.in_ok-core.core.known ≡ after d.node d.base (take d.durable d.inputs.all.list) =
    (λ i. (c.in_ok-core.ensures i).known) ∙ ((λ i. after d.node (starts i) (c.between-durable.ensures i)) ∙ after-part d.node d.inputs.gone d.durable d.base d.inputs.all.list order) in
    subst (λ (s : Summary). IfOk c.summary-2.result (λ known. known ≡ s)) (knows ∙ ap (λ (v : DeskKept). after v.view.member.node v.opening (durable_in v.view.state)) c.self.view_is) c.summary-2.ensures.value
