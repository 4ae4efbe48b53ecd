-- Why a node begins no checkpoint.
use Rattle.std.specs.Prelude.{◌≡◌, ◌⊎◌}
use Rattle.ring_records.specs.declared.refusal.Refusal.{Refusal}
use Rattle.ring_records.specs.declared.refusal.Refusal.TheVariants as refused
use Rattle.ring_records.specs.declared.refusal.Refusal.TheVariants.{OutOfMemory}

-- a checkpoint that is refused so was not begun: as 9, as 6, as 7 or as 8
abbrev pub IsUnbegun : Refusal → Type 0
IsUnbegun why = (why ≡ refused.Failed) ⊎ ((why ≡ refused.Limit) ⊎ ((why ≡ refused.Full) ⊎ (why ≡ OutOfMemory)))
