use Rattle.std.proofs.Common.{sym, ap, ◌∙◌}
use Rattle.std.specs.Option.{option_map}
use Rattle.ring_records.specs.Known.{known_of}
use Rattle.groups_terms.specs.Table.{state_at}
use Rattle.groups_terms.proofs.States.{get-states_in}
use Rattle.node_core.specs.FreeCore.{FreeView}
use Rattle.node_core.proofs.free.FreeCore.state.Goals as goal

pub returns : goal.returns
returns c =
    c.state_by.ensures
    ∙ (ap (option_map (λ b. state_at (c.args.key.now, b))) c.ballot.ensures
    ∙ (sym (get-states_in c.self.inside.table c.args.key.now) ∙ ap (λ (v : FreeView). known_of v.known c.args.key.now) c.self.view_is))
