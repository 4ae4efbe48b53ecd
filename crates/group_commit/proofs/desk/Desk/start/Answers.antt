use Rattle.std.proofs.Common.{◌∙◌, take, ap, subst}
use Rattle.ring_records.specs.Known.{after}
use Rattle.ring_records.specs.Snapshot.{IsSound}
use Rattle.group_commit.specs.Desk.{DeskKept}
use Rattle.group_commit.proofs.desk.Desk.start.Goals as goal

pub returns-in-Some-clause-value : goal.returns-in-Some-clause-value
returns-in-Some-clause-value c =
    (c.self.invariant.kept.known c.in-Some.known c.in-Some.is).0
    ∙ ap (λ (v : DeskKept). after v.view.member.node v.opening (take v.gone v.view.state.inputs)) c.self.view_is

pub returns-in-Some-clause-sound : goal.returns-in-Some-clause-sound
returns-in-Some-clause-sound c = subst (λ (v : DeskKept). IsSound v.view.member.n c.in-Some.known) c.self.view_is (c.self.invariant.kept.known c.in-Some.known c.in-Some.is).1
