use Rattle.std.proofs.Common.{arith, Option, refl, sym, ap, ◌∙◌, subst}
use Rattle.std.specs.List.Sorted.{IsStrictlySortedBy}
use Rattle.ring_records.specs.declared.snapshot_read.Counts.{Counts}
use Rattle.ring_records.specs.Snapshot.{Spells}
use Rattle.ring_records.specs.FloorLists.{by_group, floored}
use Rattle.ring_records.specs.KeyStates.{keyed}
use Rattle.ring_records.specs.StateOrder.{by_state}
use Rattle.ring_records.specs.SnapshotPart.{SnapshotPart, Parts, shown, taken_of}
use Rattle.ring_records.specs.Summary.{empty}
use Rattle.ring_records.proofs.SnapshotParts.{nothing_read, plain_read, reading_none, reading_some, sound_yes, sound_no}
use Rattle.ring_records.proofs.SnapshotWhole.{made_of}
use Rattle.ring_records.proofs.summary_reader.SummaryReader.finish.Goals as goal

pub returns-then-self-ge-OLDEST_AREA-clause-broken : goal.returns-then-self-ge-OLDEST_AREA-clause-broken
returns-then-self-ge-OLDEST_AREA-clause-broken c =
    let r = c.self.inside in (
      refl,
      λ s spells. nothing_read r.layout r.n r.counts (shown r.parts) (omega (arith, c.if-self-ge-OLDEST_AREA.true)) c.in-None.is s (subst (λ (p : SnapshotPart). Spells p.layout p.n p.taken s) (sym c.self.view_is) spells),
    )

pub returns-then-not-is_whole-clause-broken : goal.returns-then-not-is_whole-clause-broken
returns-then-not-is_whole-clause-broken c =
    let r = c.self.inside in
    let k = c.in-Some.counts in
    let p = shown r.parts in
    let read = reading_some r.layout r.n r.counts k p c.in-Some.is c.self.invariant in (
      refl,
      λ s spells. sound_no r.layout r.n c.is_whole.result k p (c.is_whole.ensures r.n read) c.if-not-is_whole.true s
          (subst (λ (o : Option Counts). Spells r.layout r.n (taken_of o p) s) c.in-Some.is (subst (λ (q : SnapshotPart). Spells q.layout q.n q.taken s) (sym c.self.view_is) spells)),
    )

pub from_sorted-requires-in-Some : goal.from_sorted-requires-in-Some
from_sorted-requires-in-Some c =
    let r = c.self.inside in
    let read = reading_some r.layout r.n r.counts c.in-Some.counts (shown r.parts) c.in-Some.is c.self.invariant in
    (sound_yes r.layout r.n c.is_whole.result c.in-Some.counts (shown r.parts) read (c.is_whole.ensures r.n read) c.if-not-is_whole.false).0.rising

pub from_sorted-requires-in-Some-2 : goal.from_sorted-requires-in-Some-2
from_sorted-requires-in-Some-2 c =
    let r = c.self.inside in
    let read = reading_some r.layout r.n r.counts c.in-Some.counts (shown r.parts) c.in-Some.is c.self.invariant in
    (sound_yes r.layout r.n c.is_whole.result c.in-Some.counts (shown r.parts) read (c.is_whole.ensures r.n read) c.if-not-is_whole.false).0.floors_rise

pub returns-else-not-is_whole-clause-found : goal.returns-else-not-is_whole-clause-found
returns-else-not-is_whole-clause-found c =
    let r = c.self.inside in
    let k = c.in-Some.counts in
    let p = shown r.parts in
    let read = reading_some r.layout r.n r.counts k p c.in-Some.is c.self.invariant in
    let found = (sound_yes r.layout r.n c.is_whole.result k p read (c.is_whole.ensures r.n read) c.if-not-is_whole.false).1 in
    subst (λ s. Spells c.args.self.layout c.args.self.n c.args.self.taken s)
    (λ i. record { inputs = k.inputs; taken = k.taken; credit = k.credit; sent = k.sent; stands = k.stands; keys = sym c.from_sorted-in-Some.ensures i; window = sym c.from_vec-in-Some.ensures i; floors = sym c.from_sorted-in-Some-2.ensures i })
    (subst (λ (q : SnapshotPart). Spells q.layout q.n q.taken (made_of k p.states p.messages p.floors)) c.self.view_is
    (subst (λ (o : Option Counts). Spells r.layout r.n (taken_of o p) (made_of k p.states p.messages p.floors)) (sym c.in-Some.is) found))

-- in layout 1 nothing was read
pub from_sorted-requires : goal.from_sorted-requires
unfolding IsStrictlySortedBy
from_sorted-requires c =
    let r = c.self.inside in
    subst (λ (p : Parts). IsStrictlySortedBy by_state p.states) (sym (reading_none r.layout r.n r.counts (shown r.parts) c.in-None.is c.self.invariant)) tt

pub from_sorted-requires-in-None : goal.from_sorted-requires-in-None
unfolding IsStrictlySortedBy
from_sorted-requires-in-None c =
    let r = c.self.inside in
    subst (λ (p : Parts). IsStrictlySortedBy by_group p.floors) (sym (reading_none r.layout r.n r.counts (shown r.parts) c.in-None.is c.self.invariant)) tt

pub returns-else-self-ge-OLDEST_AREA-clause-found : goal.returns-else-self-ge-OLDEST_AREA-clause-found
returns-else-self-ge-OLDEST_AREA-clause-found c =
    let r = c.self.inside in
    let none = reading_none r.layout r.n r.counts (shown r.parts) c.in-None.is c.self.invariant in
    let keys = c.from_sorted.ensures ∙ ap (λ (p : Parts). keyed p.states) none in
    let window = c.from_vec.ensures ∙ ap (λ (p : Parts). p.messages) none in
    let floors = c.from_sorted-in-None.ensures ∙ ap (λ (p : Parts). floored p.floors) none in
    subst (λ s. Spells c.args.self.layout c.args.self.n c.args.self.taken s)
    (λ i. record { inputs = 0; taken = 0; credit = 0; sent = 0; stands = 0; keys = sym keys i; window = sym window i; floors = sym floors i })
    (subst (λ (p : SnapshotPart). Spells p.layout p.n p.taken empty) c.self.view_is (plain_read r.layout r.n r.counts (shown r.parts) (omega (arith, c.if-self-ge-OLDEST_AREA.false)) c.in-None.is))
