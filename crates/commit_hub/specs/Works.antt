-- What a hub launches.
use Rattle.std.specs.Prelude.{◌≡◌, ◌+◌, Bool, false, Option, Some, None, Result, Ok, Err}
use Rattle.ring_records.specs.declared.refusal.Refusal.{Refusal}
use Rattle.ring_records.specs.declared.base.Base.{Base}
use Rattle.ring_records.specs.Admission.{newest}
use Rattle.gated_journal.specs.declared.work.Work.{Work}
use Rattle.gated_journal.specs.declared.work.Work.TheVariants as works
use Rattle.ring_records.specs.States.{NodeState}

-- the area of a checkpoint that flies is the next one
abbrev pub IsNextArea : NodeState → Type 0
IsNextArea s = (b : Base) → s.checkpoint ≡ Some b → (b.layout ≡ newest) × (b.epoch ≡ s.base.epoch + 1)

-- a checkpoint stays wanted behind a launch that launches none
abbrev pub stays_wanted : Bool → Result (Option Work) Refusal → Bool
stays_wanted wanted (Ok (Some (works.Checkpoint made))) = false
stays_wanted wanted (Ok (Some (works.Batch batch))) = wanted
stays_wanted wanted (Ok None) = wanted
stays_wanted wanted (Err why) = wanted
