use Rattle.std.proofs.Common.{ap, ◌∙◌}
use Rattle.ring_records.specs.Known.{sends}
use Rattle.node_core.proofs.Histories.{brought-carry}
use Rattle.node_core.specs.declared.effects.Effects.{Effects}
use Rattle.group_commit.proofs.Opening.{map_ok}
use Rattle.group_commit.proofs.desk.messages.send_next.Goals as goal

pub returns-in-Ok-clause-adds : goal.returns-in-Ok-clause-adds
returns-in-Ok-clause-adds c =
    let core = c.args.core.now in
    map_ok c.keep.result (λ adds. adds core.known.sent (sends core.me core.known c.args.input.now)
    (ap (λ (e : Effects). e.carry) c.in-Ok.ensures.brings ∙ brought-carry core.me core.known c.args.input.now)) c.keep.ensures
