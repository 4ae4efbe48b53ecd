-- What a round of a hub does to its tie: what is launched, and how that ends.
use Rattle.std.specs.Prelude.{ℕ, ◌≡◌, ◌+◌, ◌≤◌, true, false, length, Option, Some, None, Result, IfOk, IfErr, IfSome, IfNone, OnOk, OnErr, MatchOption}
use Rattle.std.specs.declared.sync.ledger.Ledger as ledger
use Rattle.ring_records.specs.declared.refusal.Refusal.{Refusal}
use Rattle.ring_records.specs.declared.refusal.Refusal.TheVariants as refused
use Rattle.gated_journal.specs.declared.flown.Receipt.{Receipt}
use Rattle.gated_journal.specs.declared.flown.Spoiled.{Spoiled}
use Rattle.gated_journal.specs.declared.work.Work.{Work}
use Rattle.gated_journal.specs.Batch.{is_checkpoint, landed as receipted, lost}
use Rattle.gated_journal.specs.Works.{flown_by}
use Rattle.group_commit.specs.declared.landed.Landed.{Landed}
use Rattle.group_commit.specs.Next.{with_batch, with_area, IsNext}
use Rattle.commit_hub.specs.declared.ledgers.NodeLedger as node
use Rattle.commit_hub.specs.declared.share.Tie.{Tie}
use Rattle.commit_hub.specs.Holders.{known_by, objection_to, view_by, IsNotLaunched}
use Rattle.commit_hub.specs.Told.{IsBrought}

module _ {A : Type 0} {a : node.Ghosts A} {la : ledger.Ghosts A} where
  -- A work of the node that has what the tie knows is launched, and flies by the tie; or none, where the node has no more than it
  -- opened with; or it is refused for what is objected to it, or for memory, and all is as it was.
  pub record IsLaunched (old new : Tie A a la) (result : Result (Option Work) Refusal) : Type 0 where
    pub next : IfOk result (λ some. IfSome some (IsNext a.member a.opening (known_by old)))
    pub none : IfOk result (λ some. IfNone some (a.opened ≤ a.opening.inputs + length (known_by old).inputs))
    pub flies : IfOk result (λ some. MatchOption some (objection_to new ≡ None) (λ work. (view_by new).flying ≡ flown_by work))
    pub cause : IfErr result (IsNotLaunched old)
    pub idle : OnOk result (objection_to old ≡ None)
    pub based : (known_by old).base.inputs ≤ length (known_by old).inputs
    pub tie : known_by new ≡ known_by old
    pub works : (view_by new).failed ≡ (view_by old).failed
    pub waits : OnErr result (objection_to new ≡ objection_to old)

  -- What flew is durable: the tie knows it, and what it lets the node release is told. Or it is refused as 10, since the receipt is
  -- not that of what flies, or the hub has failed; then it comes back, and all is as it was.
  pub record IsLanded (old new : Tie A a la) (receipt : Receipt) (result : Result Landed (Receipt × Refusal)) : Type 0 where
    pub count : IfOk result (λ landed. landed.count ≡ length (receipted receipt).inputs)
    pub kind : IfOk result (λ landed. landed.is_checkpoint ≡ is_checkpoint (receipted receipt))
    pub few : IfOk result (λ landed. length landed.notices.items ≤ landed.count)
    pub again : IfOk result (λ landed. landed.again.items ≡ landed.notices.items)
    pub brought : IfOk result (λ landed. IsBrought a.member a.opening (known_by old).inputs (receipted receipt).inputs landed)
    pub batch : OnOk result ((receipted receipt).snapshot ≡ None → known_by new ≡ with_batch (known_by old) (receipted receipt).inputs)
    pub checkpoint : OnOk result ((bytes : ℕ) → (receipted receipt).snapshot ≡ Some bytes → known_by new ≡ with_area (known_by old) (receipted receipt).inputs bytes)
    pub flew : OnOk result ((view_by old).flying ≡ receipted receipt)
    pub worked : OnOk result ((view_by old).failed ≡ false)
    pub free : OnOk result (objection_to new ≡ None)
    pub refusal : IfErr result (λ e. e.1 ≡ refused.Foreign)
    pub cause : OnErr result ((view_by old).flying ≡ receipted receipt → (view_by old).failed ≡ false → ⊥)
    pub back : IfErr result (λ e. receipted e.0 ≡ receipted receipt)
    pub tie : OnErr result (view_by new ≡ view_by old)

  -- The device failed with what flew: the tie knows it. Or it is refused as 10, since it is not what flies, and comes back.
  pub record IsFailed (old new : Tie A a la) (spoiled : Spoiled) (result : Result (Unit {0}) (Spoiled × Refusal)) : Type 0 where
    pub flew : OnOk result ((view_by old).flying ≡ lost spoiled)
    pub failed : OnOk result ((view_by new).failed ≡ true)
    pub refusal : IfErr result (λ e. e.1 ≡ refused.Foreign)
    pub cause : OnErr result ((view_by old).flying ≡ lost spoiled → ⊥)
    pub back : IfErr result (λ e. lost e.0 ≡ lost spoiled)
    pub tie : known_by new ≡ known_by old
    pub flies : (view_by new).flying ≡ (view_by old).flying
    pub works : OnErr result ((view_by new).failed ≡ (view_by old).failed)
