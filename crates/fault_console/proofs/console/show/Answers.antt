use Rattle.std.proofs.Common.{◌∷◌, [], Some, refl, sym, ap, subst}
use Rattle.fault_console.specs.Script.{Shows, show_line}
use Rattle.fault_console.proofs.console.show.Goals as goal

pub returns-in_ok-print_shown-in-Ok-clause-prints : goal.returns-in_ok-print_shown-in-Ok-clause-prints
returns-in_ok-print_shown-in-Ok-clause-prints c =
    let w = c.args.world.now in
    let node = c.args.node in
    let told = c.in-Ok.ensures in
    let lines = show_line node c.in-Ok.shown ∷ [] in
    (lines, subst (λ r. Shows w node r lines (Some w)) (sym told.shown) (ap (λ v. show_line node v ∷ []) told.value, refl), c.in_ok-print_shown-in-Ok.ensures, refl)
