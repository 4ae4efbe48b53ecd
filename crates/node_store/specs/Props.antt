-- That each fact that a node keeps has one proof at most.
use Rattle.std.specs.Prelude.{◌≢◌, ℕ, Bool, List, Option}
use Rattle.std.specs.Coded.{le_prop}
use Rattle.std.proofs.Common.{inl, inr}
use Rattle.std.proofs.Props.{props}
use Rattle.disk_model.specs.declared.device.Device.{Ghosts}
use Rattle.ring_records.specs.declared.base.Base.{Base}
use Rattle.ring_records.specs.declared.input.Input.{Input}
use Rattle.ring_records.specs.Lawful.{IsBaseOf, IsLawfulState}
use Rattle.ring_records.specs.Member.{Member}
use Rattle.ring_records.specs.Props.{IsLawful-prop, IsNodeState-prop}
use Rattle.ring_records.specs.States.{NodeState, launched_base, durable_in, flown_in}
use Rattle.gated_journal.specs.declared.journal.Journal.{Journal}
use Rattle.gated_journal.specs.Journal.{member_of, len_of, room_of, layout_of, epoch_of, is_spoiled}
use Rattle.gated_journal.specs.Reading.{Reading}
use Rattle.gated_journal.proofs.AreaAlone.{one_reading}
use Rattle.gated_journal.proofs.Once.{ReadsAs-prop}
use Rattle.node_core.specs.Core.{IsNodeOf}
use Rattle.group_commit.specs.Desk.{DeskKept, seen}
use Rattle.node_store.specs.Standing.{ReadsOnce, IsReady, Stands}
use Rattle.node_store.specs.State.{durable_held, flown_held}

-- an image does not read in two ways
ReadsOnce-prop : (header : Member) (old new : Reading) (image : List ℕ) → IsProp (ReadsOnce header old new image)
ReadsOnce-prop header old new image (inl p) (inl q) = λ i. inl (ReadsAs-prop header image old p q i)
ReadsOnce-prop header old new image (inl p) (inr q) = absurd (q.0 (one_reading header header image old new p q.1))
ReadsOnce-prop header old new image (inr p) (inl q) = absurd (p.0 (one_reading header header image old new q p.1))
ReadsOnce-prop header old new image (inr p) (inr q) = λ i. inr (apart p.0 q.0 i, ReadsAs-prop header image new p.1 q.1 i)
  where
    apart : IsProp (old ≢ new)
    apart = hlevel props

Base-set : IsSet Base
Base-set = hlevel props

Checkpoint-set : IsSet (Option Base)
Checkpoint-set = hlevel props

IsBaseOf-prop : (me : ℕ) (base : Base) (h : List Input) → IsProp (IsBaseOf me base h)
IsBaseOf-prop me base h p q i = record { within = le_prop p.within q.within i; is = Base-set _ _ p.is q.is i }

IsLawfulState-prop : (m : Member) (s : NodeState) → IsProp (IsLawfulState m s)
IsLawfulState-prop m s p q i = record {
  counts = IsNodeState-prop s p.counts q.counts i;
  base = IsBaseOf-prop m.node s.base (durable_in s) p.base q.base i;
  next = IsBaseOf-prop m.node (launched_base s) s.inputs p.next q.next i;
  held = IsLawful-prop m.node m.n m.capacity s.base (flown_in s) p.held q.held i;
  all = IsLawful-prop m.node m.n m.capacity (launched_base s) s.inputs p.all q.all i;
}

IsNodeOf-prop : (n me : ℕ) → IsProp (IsNodeOf n me)
IsNodeOf-prop n me p q i = record { from = le_prop p.from q.from i; to = le_prop p.to q.to i; in_ring = le_prop p.in_ring q.in_ring i }

IsReady-prop : (desk : DeskKept) (spoiled : Bool) (len room layout epoch : ℕ) → IsProp (IsReady desk spoiled len room layout epoch)
IsReady-prop desk spoiled len room layout epoch p q =
    let number_set : IsSet ℕ = hlevel props in
    let bool_set : IsSet Bool = hlevel props in
    λ i. record {
      idle = number_set _ _ p.idle q.idle i;
      none = Checkpoint-set _ _ p.none q.none i;
      works = bool_set _ _ p.works q.works i;
      count = number_set _ _ p.count q.count i;
      left = number_set _ _ p.left q.left i;
      form = number_set _ _ p.form q.form i;
      area = number_set _ _ p.area q.area i;
    }

module _ {D : Type 0} {g : Ghosts D} (desk : DeskKept) (journal : Journal D g) where
  pub Stands-prop : IsProp (Stands desk journal)
  Stands-prop p q =
      let member_set : IsSet Member = hlevel props in
      let number_set : IsSet ℕ = hlevel props in
      λ i. record {
        inside = IsNodeOf-prop desk.view.member.n desk.view.member.node p.inside q.inside i;
        whole = number_set _ _ p.whole q.whole i;
        counts = IsNodeState-prop desk.view.state p.counts q.counts i;
        lawful = λ past is. IsLawfulState-prop desk.view.member (seen past desk).state (p.lawful past is) (q.lawful past is) i;
        named = member_set _ _ p.named q.named i;
        holds = λ image left. ReadsOnce-prop (member_of journal) (durable_held desk) (flown_held desk) image (p.holds image left) (q.holds image left) i;
        ready = λ works. IsReady-prop desk (is_spoiled journal) (len_of journal) (room_of journal) (layout_of journal) (epoch_of journal) (p.ready works) (q.ready works) i;
      }
