use Rattle.std.proofs.Common.{◌≡◌, ◌++◌, ◌∙◌, List, drop, sym, ap, subst}
use Rattle.std.proofs.lemmas.Result.{IfOk-weaker}
use Rattle.ring_records.specs.declared.input.Input.{Input}
use Rattle.ring_records.specs.Emission.{sent}
use Rattle.ring_records.specs.States.{launched_base}
use Rattle.group_commit.specs.Desk.{DeskKept}
use Rattle.group_commit.specs.Outbox.{AreFree}
use Rattle.group_commit.specs.Past.{IsPast}
use Rattle.group_commit.proofs.Inside.{member_in, state_in}
use Rattle.group_commit.proofs.Past.{free_since}
use Rattle.group_commit.proofs.desk.Desk.messages.Goals as goal

pub messages_of-requires-clause-free : goal.messages_of-requires-clause-free
messages_of-requires-clause-free c =
    let d = c.self.inside in
    subst (AreFree d.node d.n d.base) (sym c.whole.ensures) (free_since (member_in d) d.base (launched_base (state_in d)) d.inputs.all.list c.self.invariant.state.all)

pub returns : goal.returns
returns c =
    let d = c.self.inside in
    IfOk-weaker c.messages_of.result _ _ (λ messages told.
    subst (λ (v : DeskKept). (past : List Input) → IsPast v.view.member v.opening past → messages.items ≡ drop v.opening.credit (sent v.view.member.node (past ++ v.view.state.inputs)))
    c.self.view_is (λ past is. told d.capacity past is ∙ ap (λ (h : List Input). drop d.base.credit (sent d.node (past ++ h))) c.whole.ensures)) c.messages_of.ensures
