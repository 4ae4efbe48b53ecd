use Rattle.std.proofs.Common.{arith, Option, sym, subst}
use Rattle.std.proofs.lemmas.Bool.{ltb-false, ltb-true}
use Rattle.ring_records.specs.declared.snapshot_read.Counts.{Counts}
use Rattle.ring_records.specs.Snapshot.{Spells}
use Rattle.ring_records.specs.Summary.{empty}
use Rattle.ring_records.specs.SnapshotPart.{SnapshotPart, shown, taken_of}
use Rattle.ring_records.proofs.SnapshotParts.{nothing_read, plain_read, reading_some, sound_yes, sound_no}
use Rattle.ring_records.proofs.SnapshotWhole.{made_of}
use Rattle.ring_records.proofs.summary_reader.SummaryReader.is_sound.Goals as goal

pub returns-in-None-clause-no : goal.returns-in-None-clause-no
returns-in-None-clause-no c = λ e s spells.
    let r = c.self.inside in
    nothing_read r.layout r.n r.counts (shown r.parts) (ltb-false r.layout 2 e) c.in-None.is s (subst (λ (p : SnapshotPart). Spells p.layout p.n p.taken s) (sym c.self.view_is) spells)

pub returns-in-None-clause-yes : goal.returns-in-None-clause-yes
returns-in-None-clause-yes c = λ e.
    let r = c.self.inside in
    let old = ltb-true r.layout 2 e in (
      empty,
      subst (λ (p : SnapshotPart). Spells p.layout p.n p.taken empty) c.self.view_is (plain_read r.layout r.n r.counts (shown r.parts) (omega (arith, old)) c.in-None.is),
    )

pub returns-in-Some-clause-yes : goal.returns-in-Some-clause-yes
returns-in-Some-clause-yes c = λ e.
    let r = c.self.inside in
    let k = c.in-Some.counts in
    let p = shown r.parts in
    let read = reading_some r.layout r.n r.counts k p c.in-Some.is c.self.invariant in
    let found = sound_yes r.layout r.n c.is_whole.result k p read (c.is_whole.ensures r.n read) e in (
      made_of k p.states p.messages p.floors,
      subst (λ (q : SnapshotPart). Spells q.layout q.n q.taken (made_of k p.states p.messages p.floors)) c.self.view_is
          (subst (λ (o : Option Counts). Spells r.layout r.n (taken_of o p) (made_of k p.states p.messages p.floors)) (sym c.in-Some.is) found.1),
    )

pub returns-in-Some-clause-no : goal.returns-in-Some-clause-no
returns-in-Some-clause-no c = λ e s spells.
    let r = c.self.inside in
    let k = c.in-Some.counts in
    let p = shown r.parts in
    let read = reading_some r.layout r.n r.counts k p c.in-Some.is c.self.invariant in
    sound_no r.layout r.n c.is_whole.result k p (c.is_whole.ensures r.n read) e s
    (subst (λ (o : Option Counts). Spells r.layout r.n (taken_of o p) s) c.in-Some.is (subst (λ (q : SnapshotPart). Spells q.layout q.n q.taken s) (sym c.self.view_is) spells))
