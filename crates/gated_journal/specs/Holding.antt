-- What a journal holds, and counts.
use Rattle.std.specs.Prelude.{◌≡◌, ◌-◌, false}
use Rattle.disk_model.specs.declared.device.Device.{Ghosts}
use Rattle.gated_journal.specs.declared.journal.Journal.{Journal}
use Rattle.gated_journal.specs.Areas.{AllReadAs}
use Rattle.gated_journal.specs.Journal.{device_of, member_of, len_of, room_of, layout_of, epoch_of, is_spoiled}
use Rattle.gated_journal.specs.Opened.{count_in, used_in}
use Rattle.gated_journal.specs.Reading.{Reading}

-- every image that a stop may leave reads as this; the journal counts it, and is not spoiled
pub record HoldsReading {D : Type 0} {g : Ghosts D} (journal : Journal D g) (r : Reading) : Type 0 where
  pub durable : AllReadAs (member_of journal) (g.disk (device_of journal)) r
  pub ready : is_spoiled journal ≡ false
  pub len : len_of journal ≡ count_in r
  pub room : room_of journal ≡ (member_of journal).capacity - used_in r
  pub layout : layout_of journal ≡ r.layout
  pub epoch : epoch_of journal ≡ r.epoch
