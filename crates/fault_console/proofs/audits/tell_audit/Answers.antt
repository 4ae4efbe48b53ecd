use Rattle.std.proofs.Common.{◌∷◌, [], Some, refl, sym, ap, subst}
use Rattle.fault_console.specs.Script.{Audits, audit_line}
use Rattle.fault_console.proofs.audits.tell_audit.Goals as goal

pub returns-in_ok-print_audit-in-Ok-clause-prints : goal.returns-in_ok-print_audit-in-Ok-clause-prints
returns-in_ok-print_audit-in-Ok-clause-prints c =
    let w = c.args.world.now in
    let told = c.in-Ok.ensures in
    let lines = audit_line c.in-Ok.count ∷ [] in
    (lines, subst (λ r. Audits w r lines (Some w)) (sym told.given) (ap (λ n. audit_line n ∷ []) told.value, refl), c.in_ok-print_audit-in-Ok.ensures, refl)
