use Rattle.std.proofs.Common.{sym, ◌∙◌}
use Rattle.ring_world.proofs.Tickets.{without-none}
use Rattle.ring_world.proofs.working.changes.release_due.Goals as goal

pub returns-clause-node : goal.returns-clause-node
returns-clause-node c =
    let none = c.in_default.ensures.none in
    none.1 ∙ (sym (without-none c.loop-released.node none.0) ∙ c.loop-released.invariant.kept)
