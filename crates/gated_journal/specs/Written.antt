-- What a write of a work makes of a journal.
use Rattle.std.specs.Prelude.{◌≡◌, length, Result, IfOk, IfErr, IsOk, OnOk, OnErr, is_err}
use Rattle.disk_model.specs.declared.device.Device.{Ghosts}
use Rattle.disk_model.specs.Disk.{LeavesOnly, Reaches}
use Rattle.disk_model.specs.Calls.{HasCause}
use Rattle.ring_records.specs.Admission.{costs_of}
use Rattle.gated_journal.specs.declared.flown.Receipt.{Receipt}
use Rattle.gated_journal.specs.declared.flown.Spoiled.{Spoiled}
use Rattle.gated_journal.specs.declared.journal.Journal.{Journal}
use Rattle.gated_journal.specs.declared.work.Work.{Work}
use Rattle.gated_journal.specs.Areas.{AllReadAs, ReadsAsOneOf}
use Rattle.gated_journal.specs.Batch.{landed, lost}
use Rattle.gated_journal.specs.Journal.{device_of, member_of, len_of, room_of, layout_of, epoch_of, is_spoiled}
use Rattle.gated_journal.specs.Reading.{Reading, device_size}
use Rattle.gated_journal.specs.Works.{flown_by, summary_by, reading_after}
use Rattle.gated_journal.specs.WorkTaken.{count_after, room_after, layout_after, epoch_after}

module _ {D : Type 0} {g : Ghosts D} where
  -- what is read behind the work, where this was read before
  abbrev pub behind : Journal D g → Work → Reading → Reading
  behind old work r = reading_after (epoch_of old) (summary_by work) (flown_by work).inputs r

  -- It is durable, and the journal counts it; or the device failed, and the journal is spoiled. A stop at any moment of the
  -- call leaves what was read before it, or what is read behind the work. Within its reach the device does not fail.
  pub record IsWritten (old new : Journal D g) (work : Work) (result : Result Receipt Spoiled) : Type 0 where
    pub any_moment : (r : Reading) → AllReadAs (member_of old) (g.disk (device_of old)) r
        → LeavesOnly g.clock g.left_since (device_of old) (device_of new) (ReadsAsOneOf (member_of old) r (behind old work r))
    pub durable : OnOk result ((r : Reading) → AllReadAs (member_of old) (g.disk (device_of old)) r → AllReadAs (member_of old) (g.disk (device_of new)) (behind old work r))
    pub spoils : is_spoiled new ≡ is_err result
    pub cause : HasCause (g.count (device_of old)) (g.count (device_of new)) result
    pub works : Reaches (g.reach (device_of old)) (device_size (member_of old).capacity) → IsOk result
    pub reach : g.reach (device_of new) ≡ g.reach (device_of old)
    pub receipt : IfOk result (λ receipt. landed receipt ≡ flown_by work)
    pub spoiled : IfErr result (λ spoiled. lost spoiled ≡ flown_by work)
    pub header : member_of new ≡ member_of old
    pub len : OnOk result (len_of new ≡ count_after (summary_by work) (length (flown_by work).inputs) (len_of old))
    pub room : OnOk result (room_of new ≡ room_after (flown_by work).snapshot (member_of old).capacity (costs_of (flown_by work).inputs) (room_of old))
    pub layout : OnOk result (layout_of new ≡ layout_after (flown_by work).snapshot (layout_of old))
    pub epoch : OnOk result (epoch_of new ≡ epoch_after (flown_by work).snapshot (epoch_of old))
    pub kept : OnErr result ((len_of new ≡ len_of old) × (room_of new ≡ room_of old) × (epoch_of new ≡ epoch_of old) × (layout_of new ≡ layout_of old))
