-- What an audit finds where there is no run.
use Rattle.std.specs.Prelude.{ℕ, List}
use Rattle.ring_records.specs.declared.input.Input.{Input}
use Rattle.ring_audit.specs.declared.runs.AuditFault.{AuditFault}
use Rattle.ring_audit.specs.declared.runs.AuditFault.TheVariants.{Shape, Stuck, Memory}
use Rattle.ring_audit.specs.Placement.{IsWhole}
use Rattle.ring_audit.specs.Placed.{IsStuck}
use Rattle.ring_audit.specs.Audits.{HasShape}

-- no legal run has them as its parts
abbrev pub HasNoRun : List (List Input) → Type 0
HasNoRun hs = (run : List (ℕ × Input)) → IsWhole hs run → ⊥

-- what a fault says
abbrev pub Explains : List (List Input) → AuditFault → Type 0
Explains hs Shape = HasShape hs → ⊥
Explains hs (Stuck node place) = HasShape hs × HasNoRun hs × IsStuck hs node place
Explains hs Memory = HasShape hs
