use Rattle.std.proofs.Common.{rules, ◌≡◌}
use Rattle.node_core.specs.Kept.{known_with}
use Rattle.node_core.proofs.Views.{restored_counted}
use Rattle.node_core.proofs.free.FreeCore.restore.Goals as goal

pub invariant_of-result : goal.invariant_of-result
invariant_of-result c =
    let same : known_with c.args.from.now.inputs c.in_ok-restore.field-0 c.in_ok-restore-2.field-0.link c.restore-3.result ≡ c.args.from.now = search rules in
    restored_counted c.in_ok-restore.field-0.me c.args.n c.args.from.now _ same c.requires
