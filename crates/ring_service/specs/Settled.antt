-- What a launched work comes to, at the journal of a hub's node and at the hub's tie.
use Rattle.std.specs.Prelude.{◌≡◌, true, false, length, None, is_some, Result, IfOk, IfErr, IsOk, OnOk, OnErr}
use Rattle.std.specs.declared.sync.ledger.Ledger as ledger
use Rattle.disk_model.specs.declared.device.Device as device
use Rattle.disk_model.specs.Disk.{LeavesOnly, Reaches}
use Rattle.ring_records.specs.declared.refusal.Refusal.{Refusal}
use Rattle.gated_journal.specs.declared.journal.Journal.{Journal}
use Rattle.gated_journal.specs.declared.work.Work.{Work}
use Rattle.gated_journal.specs.Areas.{AllReadAs, ReadsAsOneOf}
use Rattle.gated_journal.specs.Journal.{device_of, member_of, len_of, room_of, layout_of, epoch_of, is_spoiled}
use Rattle.gated_journal.specs.Reading.{Reading, device_size}
use Rattle.gated_journal.specs.Unread.{IsFault}
use Rattle.gated_journal.specs.Works.{flown_by, reading_after, summary_by}
use Rattle.group_commit.specs.declared.landed.Landed.{Landed}
use Rattle.commit_hub.specs.declared.ledgers.NodeLedger as node
use Rattle.commit_hub.specs.declared.share.Tie.{Tie}
use Rattle.commit_hub.specs.Holders.{known_by, objection_to}
use Rattle.commit_hub.specs.Told.{IsBrought}
use Rattle.ring_service.specs.Rounds.{HasKnown, known_behind}

module _ {V A : Type 0} {v : device.Ghosts V} {a : node.Ghosts A} {la : ledger.Ghosts A} where
  -- The work is durable, and the tie knows it; told is how many inputs it has, of which kind it is, and what it lets the node
  -- release; the journal has what the tie knows, and a next work may be launched. Or the device failed, and the journal is
  -- spoiled: within its reach it does not. A stop at any moment leaves what was read before, or what is read behind the work.
  pub record IsSettled (old new : Journal V v) (before behind : Tie A a la) (work : Work) (result : Result Landed Refusal) : Type 0 where
    pub count : IfOk result (λ landed. landed.count ≡ length (flown_by work).inputs)
    pub kind : IfOk result (λ landed. landed.is_checkpoint ≡ is_some (summary_by work))
    pub brought : IfOk result (λ landed. IsBrought a.member a.opening (known_by before).inputs (flown_by work).inputs landed)
    pub again : IfOk result (λ landed. landed.again.items ≡ landed.notices.items)
    pub durable : OnOk result ((r : Reading) → AllReadAs a.member (v.disk (device_of old)) r
        → AllReadAs a.member (v.disk (device_of new)) (reading_after (epoch_of old) (summary_by work) (flown_by work).inputs r))
    pub ready : OnOk result (is_spoiled new ≡ false)
    pub member : member_of new ≡ a.member
    pub next : OnOk result (known_by behind ≡ known_behind (summary_by work) (flown_by work).inputs (known_by before))
    pub known : OnOk result (HasKnown a.member a.opening (known_by behind) (len_of new) (room_of new) (layout_of new) (epoch_of new))
    pub free : OnOk result (objection_to behind ≡ None)
    pub refusal : IfErr result (IsFault (v.count (device_of old)) (v.count (device_of new)))
    pub spoiled : OnErr result (is_spoiled new ≡ true)
    pub in_reach : Reaches (v.reach (device_of old)) (device_size a.member.capacity) → IsOk result
    pub any_moment : (r : Reading) → AllReadAs (member_of old) (v.disk (device_of old)) r
        → LeavesOnly v.clock v.left_since (device_of old) (device_of new) (ReadsAsOneOf (member_of old) r (reading_after (epoch_of old) (summary_by work) (flown_by work).inputs r))
