-- What a journal shows.
use Rattle.std.specs.Prelude.{ℕ, ◌-◌, Bool}
use Rattle.ring_records.specs.Member.{Member, member}
use Rattle.disk_model.specs.declared.device.Device.{Ghosts}
use Rattle.gated_journal.specs.declared.journal.Journal.{Journal}

module _ {D : Type 0} {g : Ghosts D} where
  abbrev pub device_of : Journal D g → D
  device_of journal = journal.device

  abbrev pub member_of : Journal D g → Member
  member_of journal = member journal.node journal.n journal.place.capacity

  -- how many inputs it holds, those that are summarised among them
  abbrev pub len_of : Journal D g → ℕ
  len_of journal = journal.place.count

  -- the epoch of its area in use
  abbrev pub epoch_of : Journal D g → ℕ
  epoch_of journal = journal.place.area.epoch

  -- the layout of its area in use, 1 of frames alone
  abbrev pub layout_of : Journal D g → ℕ
  layout_of journal = journal.place.area.layout

  -- how many bytes of the capacity are left
  abbrev pub room_of : Journal D g → ℕ
  room_of journal = journal.place.capacity - journal.place.used

  abbrev pub is_spoiled : Journal D g → Bool
  is_spoiled journal = journal.is_spoiled
