-- What tells a journal that a later program wrote.
use Rattle.std.specs.Prelude.{◌≡◌, ◌<◌, ℕ}
use Rattle.ring_records.specs.Admission.{newest}
use Rattle.gated_journal.specs.declared.newer.AreaStart.{AreaStart}
use Rattle.gated_journal.specs.Areas.{IsLayout}

-- the area counts: its gate is open, and its layout is one that is read
abbrev pub IsRead : AreaStart → Type 0
IsRead area = (area.gate ≡ 1) × IsLayout area.layout

-- its gate is open, and it is of this layout, which is above all that are read
abbrev pub IsNewer : AreaStart → ℕ → Type 0
IsNewer area layout = (area.gate ≡ 1) × (area.layout ≡ layout) × (newest < layout)
