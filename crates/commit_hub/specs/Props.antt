-- That each fact which a hub keeps has one proof at most.
use Rattle.std.specs.Prelude.{◌≡◌}
use Rattle.std.specs.Coded.{Coded-set, coded_ℕ}
use Rattle.std.proofs.Props.{props}
use Rattle.ring_records.specs.declared.summary.Summary.{Summary}
use Rattle.ring_records.specs.Member.{Member}
use Rattle.ring_records.specs.States.{NodeState}
use Rattle.ring_records.specs.Codes.{coded_summary}
use Rattle.gated_journal.specs.Batch.{Numbered}
use Rattle.group_commit.specs.Next.{Durable}
use Rattle.commit_hub.specs.Tied.{coded_durable, coded_flying, coded_names, coded_view}
use Rattle.commit_hub.specs.Ties.{Names, TieView}
use Rattle.commit_hub.specs.Works.{IsNextArea}

members : IsSet Member
members = hlevel props

pub member-prop : (a b : Member) → IsProp (a ≡ b)
member-prop a b = members a b

pub summary-prop : (a b : Summary) → IsProp (a ≡ b)
summary-prop a b = Coded-set coded_summary a b

pub names-prop : (a b : Names) → IsProp (a ≡ b)
names-prop a b = Coded-set coded_names a b

pub durable-prop : (a b : Durable) → IsProp (a ≡ b)
durable-prop a b = Coded-set coded_durable a b

pub flying-prop : (a b : Numbered) → IsProp (a ≡ b)
flying-prop a b = Coded-set coded_flying a b

pub view-prop : (a b : TieView) → IsProp (a ≡ b)
view-prop a b = Coded-set coded_view a b

pub IsNextArea-prop : (s : NodeState) → IsProp (IsNextArea s)
IsNextArea-prop s p q i = λ b e. (Coded-set coded_ℕ _ _ (p b e).0 (q b e).0 i, Coded-set coded_ℕ _ _ (p b e).1 (q b e).1 i)
