use Rattle.std.proofs.Common.{sym, ap, ◌∙◌}
use Rattle.std.specs.Option.{option_map}
use Rattle.ring_records.specs.Known.{heard, known_of, leader_of, passed, stood_of}
use Rattle.ring_records.specs.Message.{key_of}
use Rattle.groups_terms.specs.Table.{state_at}
use Rattle.groups_terms.proofs.States.{get-states_in}
use Rattle.node_core.specs.FreeCore.{FreeView}
use Rattle.node_core.proofs.Steps.{heard-state, passes-state}
use Rattle.node_core.proofs.free.FreeCore.would_hear.Goals as goal

pub returns-clause-before : goal.returns-clause-before
returns-clause-before c =
    c.state_by.ensures
    ∙ ((λ i. option_map (λ b. state_at (c.key-key.ensures i, b)) (c.would_hear-before.ensures.before i))
    ∙ (sym (get-states_in c.self.inside.table (key_of c.args.msg.now)) ∙ ap (λ (v : FreeView). known_of v.known (key_of c.args.msg.now)) c.self.view_is))

pub returns-clause-heard : goal.returns-clause-heard
returns-clause-heard c =
    c.state_of.ensures
    ∙ ((λ i. state_at (c.key-key.ensures i, c.would_hear-before.ensures.heard i))
    ∙ (heard-state c.self.inside.inputs c.self.inside.inlink c.self.inside.table c.self.inside.outlink.link c.args.msg.now ∙ ap (λ (v : FreeView). heard v.me v.known c.args.msg.now) c.self.view_is))

pub returns-clause-passes : goal.returns-clause-passes
returns-clause-passes c =
    c.would_hear-before.ensures.passes
    ∙ (passes-state c.self.inside.inputs c.self.inside.inlink c.self.inside.table c.self.inside.outlink.link c.args.msg.now
    ∙ ap (λ (v : FreeView). passed v.me (stood_of (known_of v.known (key_of c.args.msg.now))) (leader_of (known_of v.known (key_of c.args.msg.now))) c.args.msg.now) c.self.view_is)
