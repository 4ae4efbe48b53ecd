-- What a work shows, which journals take it, and what they read as behind it.
use Rattle.std.specs.Prelude.{◌+◌, ℕ, List, Option, Some, None}
use Rattle.ring_records.specs.declared.input.Input.{Input}
use Rattle.ring_records.specs.declared.summary.Summary.{Summary}
use Rattle.ring_records.specs.Admission.{newest}
use Rattle.gated_journal.specs.Batch.{Numbered, numbered_by, base_by, shown}
use Rattle.gated_journal.specs.Reading.{Reading, fresh_area, with_more}
use Rattle.gated_journal.specs.declared.work.Work.{Work}
use Rattle.gated_journal.specs.declared.work.Work.TheVariants as works

-- ---- what it shows

-- the inputs that fly as it, numbered in the whole history
abbrev pub flown_by : Work → Numbered
flown_by (works.Batch batch) = shown batch
flown_by (works.Checkpoint made) = numbered_by made

-- the summary, where it is a checkpoint
abbrev pub summary_by : Work → Option Summary
summary_by (works.Batch batch) = None
summary_by (works.Checkpoint made) = Some (base_by made)

-- ---- what it makes of a journal: by its summary, or the length of that, where it is a checkpoint

-- what is read then, where the area in use had this epoch
abbrev pub reading_after : ℕ → Option Summary → List Input → Reading → Reading
reading_after epoch None inputs r = with_more r inputs
reading_after epoch (Some base) inputs r = fresh_area newest (epoch + 1) base
