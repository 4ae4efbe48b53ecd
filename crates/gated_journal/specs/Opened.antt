-- What a journal reads as that is opened, and how much of it is used.
use Rattle.std.specs.Prelude.{◌≡◌, ◌+◌, ℕ, List, ◌++◌, length}
use Rattle.ring_records.specs.declared.input.Input.{Input}
use Rattle.ring_records.specs.Admission.{area_bytes, costs_of}
use Rattle.ring_records.specs.Summary.{summary}
use Rattle.gated_journal.specs.declared.opening.Opening.{Opening}
use Rattle.gated_journal.specs.Reading.{Reading}

-- what a journal was opened with
abbrev pub reading_of_opening : Opening → Reading
reading_of_opening o = record { layout = o.layout; epoch = o.epoch; base = o.base; inputs = o.inputs.items }

-- how many bytes of the capacity are used: by the snapshot, and by the inputs behind it
abbrev pub used_in : Reading → ℕ
used_in r = area_bytes r.layout r.base + costs_of r.inputs

-- how many inputs there are, those that are summarised among them
abbrev pub count_in : Reading → ℕ
count_in r = r.base.inputs + length r.inputs

-- it stands for the inputs h of node `me`: the summary is that of the first of them, and its inputs are the rest
pub record StandsFor (me : ℕ) (r : Reading) (h : List Input) : Type 0 where
  pub before : List Input
  pub base : r.base ≡ summary me before
  pub joined : h ≡ before ++ r.inputs
