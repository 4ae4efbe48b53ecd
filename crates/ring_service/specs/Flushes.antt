-- What a call for a round makes of a flusher.
use Rattle.std.specs.Prelude.{◌≡◌, ◌++◌, ◌≤◌, ◌⊎◌, [], true, false, Option, Result, IfOk, IfErr, IfSome, IfNone, IsErrOf, OnOk, OnErr}
use Rattle.std.specs.declared.sync.ledger.Ledger as ledger
use mathlib.Core.List.{IsPrefix}
use Rattle.disk_model.specs.declared.device.Device as device
use Rattle.disk_model.specs.Disk.{Reaches}
use Rattle.ring_records.specs.declared.refusal.Refusal.{Refusal}
use Rattle.ring_records.specs.declared.refusal.Refusal.TheVariants as refused
use Rattle.gated_journal.specs.Journal.{is_spoiled}
use Rattle.gated_journal.specs.Reading.{device_size}
use Rattle.gated_journal.specs.Unread.{IsFault}
use Rattle.decision_board.specs.Boards as boards
use Rattle.group_commit.specs.declared.landed.Landed.{Landed}
use Rattle.commit_hub.specs.declared.ledgers.NodeLedger as node
use Rattle.ring_service.specs.declared.flusher.Flusher.{Flusher}
use Rattle.ring_service.specs.Flushers as of
use Rattle.ring_service.specs.Rounds.{IsIdle}

module _ {V J A : Type 0} {v : device.Ghosts V} {a : node.Ghosts A} {la : ledger.Ghosts A} where
  -- What landed is told, behind all that was told before, and no notice is lost: where nothing lands, told is what was. What is
  -- published begins with what was; behind a round in which the board was refused no growth nothing is owed, and all is published.
  pub record Publishes (old new : Flusher V J A v a la) (result : Result (Option Landed) Refusal) : Type 0 where
    pub told : IfOk result (λ some. IfSome some (λ landed. of.told_to new ≡ of.told_to old ++ landed.notices.items))
    pub kept : IfOk result (λ some. IfNone some (of.told_to new ≡ of.told_to old))
    pub same : OnErr result (of.told_to new ≡ of.told_to old)
    pub published : IsPrefix (boards.published (of.board_of old)) (boards.published (of.board_of new))
    pub pending : of.is_published new ≡ true → boards.pending (of.board_of new) ≡ []
    pub all : IfOk result (λ some. IfSome some (λ _. boards.LackedMemory (of.board_of old) (of.board_of new)
        ⊎ ((of.is_published new ≡ true) × (boards.pending (of.board_of new) ≡ []) × (of.owed_of new ≡ []))))
    pub refusals : boards.refusals (of.board_of old) ≤ boards.refusals (of.board_of new)

  -- A refused round launched nothing, and all that is durable is as it was; or the device failed, and the journal is spoiled: within
  -- its reach it does not.
  pub record IsUnflushed (old new : Flusher V J A v a la) (result : Result (Option Landed) Refusal) : Type 0 where
    pub refusal : IfErr result (λ why. IsIdle why ⊎ IsFault (v.count (of.device_in old)) (v.count (of.device_in new)) why)
    pub idle : IfErr result (λ why. IsIdle why → (of.journal_of new ≡ of.journal_of old) × (of.known_to new ≡ of.known_to old))
    pub spoiled : IfErr result (λ why. IsFault (v.count (of.device_in old)) (v.count (of.device_in new)) why → is_spoiled (of.journal_of new) ≡ true)
    pub in_reach : Reaches (v.reach (of.device_in old)) (device_size a.member.capacity) → IfErr result IsIdle

  -- It ends where the device failed, and answers 9 then, and only then.
  pub record EndsOnFault (old new : Flusher V J A v a la) (result : Result (Option Landed) Refusal) : Type 0 where
    pub ends : IfErr result (λ why. IsIdle why ⊎ (of.has_ended new ≡ true))
    pub goes_on : OnOk result (of.has_ended new ≡ false)
    pub ended : of.has_ended old ≡ true → IsErrOf result refused.Failed
    pub failed : IfErr result (λ why. why ≡ refused.Failed → of.has_ended old ≡ true)
