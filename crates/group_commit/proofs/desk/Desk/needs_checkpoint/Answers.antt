use Rattle.std.proofs.Common.{◌∙◌, ◌&&◌, nat_lt, sym, ap, subst}
use Rattle.ring_records.specs.Admission.{newest}
use Rattle.node_core.specs.Core.{CoreView}
use Rattle.group_commit.specs.Launching.{MayRenew}
use Rattle.group_commit.proofs.Inside.{shown_by}
use Rattle.group_commit.proofs.Since.{may_renew}
use Rattle.group_commit.proofs.desk.Desk.needs_checkpoint.Goals as goal

pub returns-clause-may : goal.returns-clause-may
returns-clause-may c = λ e.
    let waits = sym (ap (λ (v : CoreView). nat_lt v.room.layout newest && v.room.waits) c.self.invariant.knows) ∙ (sym c.needs_area.ensures ∙ e) in
    subst MayRenew c.self.view_is (may_renew (shown_by c.self.inside) c.self.invariant.state waits)
