use Rattle.std.proofs.Common.{◌≡◌, ◌≤◌, ◌∙◌, sym, subst}
use Rattle.ring_records.specs.Known.{Objects}
use Rattle.node_core.specs.Core.{CoreView}
use Rattle.node_core.proofs.Histories.{refused-is}
use Rattle.node_core.proofs.Refusals.{refuses_first, refuses_last}
use Rattle.node_core.proofs.Retiring.{stood_count}
use Rattle.node_core.proofs.node.NodeCore.admit.Goals as goal

pub returns-in-Some-clause-value : goal.returns-in-Some-clause-value
returns-in-Some-clause-value c =
    let said = subst (λ (v : CoreView). Objects v.size v.known c.args.input.now c.objection.result) c.self.view_is c.objection.ensures in
    refuses_first c.args.self.now c.args.input.now c.objection.result _ said c.in-Some.is

pub returns-in-Some-clause-known : goal.returns-in-Some-clause-known
returns-in-Some-clause-known c = λ base h s.
    let said = subst (λ (v : CoreView). Objects v.size v.known c.args.input.now c.objection.result) c.self.view_is c.objection.ensures in
    refused-is c.args.self.now base h c.args.input.now _
    (subst (λ (v : CoreView). v.known.credit ≤ v.known.sent) c.self.view_is c.self.invariant.within) (subst (λ (v : CoreView). v.known.stands ≡ stood_count v.known.keys) c.self.view_is c.self.invariant.stood)
    s (refuses_first c.args.self.now c.args.input.now c.objection.result _ said c.in-Some.is)

pub returns-in-Some-no_room-clause-known : goal.returns-in-Some-no_room-clause-known
returns-in-Some-no_room-clause-known c = λ base h s.
    let said = subst (λ (v : CoreView). Objects v.size v.known c.args.input.now c.objection.result) c.self.view_is c.objection.ensures in
    refused-is c.args.self.now base h c.args.input.now _
    (subst (λ (v : CoreView). v.known.credit ≤ v.known.sent) c.self.view_is c.self.invariant.within) (subst (λ (v : CoreView). v.known.stands ≡ stood_count v.known.keys) c.self.view_is c.self.invariant.stood)
    s (refuses_last c.args.self.now c.args.input.now c.objection.result _ said c.in_default.is (sym c.in-Some-no_room.is ∙ c.no_room.ensures))

pub returns-in-None-clause-known : goal.returns-in-None-clause-known
returns-in-None-clause-known c = λ base h s.
    let said = subst (λ (v : CoreView). Objects v.size v.known c.args.input.now c.objection.result) c.self.view_is c.objection.ensures in
    refused-is c.args.self.now base h c.args.input.now _
    (subst (λ (v : CoreView). v.known.credit ≤ v.known.sent) c.self.view_is c.self.invariant.within) (subst (λ (v : CoreView). v.known.stands ≡ stood_count v.known.keys) c.self.view_is c.self.invariant.stood)
    s (refuses_last c.args.self.now c.args.input.now c.objection.result _ said c.in_default.is (sym c.in-None.is ∙ c.no_room.ensures))
