-- A journal at rest, by the place where it stands on its device.
use Rattle.std.specs.Prelude.{◌≡◌, ◌-◌, ℕ, List}
use Rattle.disk_model.specs.Disk.{Disk}
use Rattle.disk_model.specs.Synced.{IsSynced}
use Rattle.ring_records.specs.Member.{Member}
use Rattle.gated_journal.specs.Areas.{ReadsAt}
use Rattle.gated_journal.specs.AreaWritten.{IsGate}
use Rattle.gated_journal.specs.Reading.{Reading}
use Rattle.gated_journal.specs.Opened.{used_in, count_in}
use Rattle.gated_journal.specs.Works.{flown_by, summary_by, reading_after}
use Rattle.gated_journal.specs.WorkTaken.{IsTaken}
use Rattle.gated_journal.specs.declared.place.Place.{Place}
use Rattle.gated_journal.specs.declared.work.Work.{Work}

-- the image is read as r at this place, with its numbers
pub record IsReadHere (header : Member) (image : List ℕ) (place : Place) (r : Reading) : Type 0 where
  pub capacity : place.capacity ≡ header.capacity
  pub at : ReadsAt header image r place.area.start place.area.other place.area.offset place.gate_at
  pub layout : r.layout ≡ place.area.layout
  pub epoch : r.epoch ≡ place.area.epoch
  pub count : count_in r ≡ place.count
  pub used : used_in r ≡ place.used

-- nothing waits for a sync, and the gate of the other area is known
pub record IsAtRest (disk : Disk) (place : Place) : Type 0 where
  pub synced : IsSynced disk
  pub gate : IsGate place.area.is_closed place.area.other disk.image

-- it is at rest, and the image is read there
pub record IsInUse (header : Member) (disk : Disk) (place : Place) : Type 0 where
  pub rest : IsAtRest disk place
  pub reads : ∥ ((r : Reading) × IsReadHere header disk.image place r) ∥₁

-- it is at rest, and read as r there
pub record Stands (header : Member) (disk : Disk) (place : Place) (r : Reading) : Type 0 where
  pub rest : IsAtRest disk place
  pub here : IsReadHere header disk.image place r

-- the journal that stands there takes the work
abbrev pub IsTakenAt : Member → Place → Work → Type 0
IsTakenAt header place work = IsTaken (record header { capacity = place.capacity }) place.count (place.capacity - place.used) place.area.layout place.area.epoch work

-- what is read there behind the work
abbrev pub reading_behind : Place → Work → Reading → Reading
reading_behind place work r = reading_after place.area.epoch (summary_by work) (flown_by work).inputs r
