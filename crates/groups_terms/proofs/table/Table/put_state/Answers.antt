use Rattle.std.proofs.Common.{ap}
use Rattle.groups_terms.specs.Table.{TableView}
use Rattle.groups_terms.proofs.States.{state_kept}
use Rattle.groups_terms.proofs.table.Table.put_state.Goals as goal

pub invariant_of-self-2 : goal.invariant_of-self-2
invariant_of-self-2 c = (
  state_kept c.args.self.now _ _ c.self.inside.latest c.make_room.new.latest c.note.new.latest c.args.state.now.key _ (ap (λ (t : TableView). t.ballots) c.self.view_is) c.self.invariant.0
      c.requires c.make_room.ensures.same c.in_ok-put.ensures.ok c.note.ensures,
  c.in_ok-put.ensures.terms c.self.invariant.1,
)
