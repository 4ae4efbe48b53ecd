use Rattle.std.proofs.Common.{◌++◌, List, subst}
use Rattle.ring_records.specs.Snapshot.{Spells}
use Rattle.ring_records.specs.SnapshotPart.{SnapshotPart, shown, NoCounts}
use Rattle.ring_records.proofs.SnapshotParts.{none_taken}
use Rattle.ring_records.proofs.SnapshotLeft.{no_counts}
use Rattle.ring_records.proofs.summary_reader.SummaryReader.take.Goals as goal

pub returns-in-None-take_counts-clause-part : goal.returns-in-None-take_counts-clause-part
returns-in-None-take_counts-clause-part c = λ more s long some spells.
    no_counts c.args.self.now.layout c.args.self.now.n c.args.bytes.now more s (subst (λ (p : SnapshotPart). NoCounts p.layout c.args.bytes.now) c.self.view_is c.in-None-take_counts.ensures) long some
    (subst (λ (l : List _). Spells c.args.self.now.layout c.args.self.now.n (l ++ (c.args.bytes.now ++ more)) s) (none_taken c.args.self.now c.self.inside.n c.self.inside.layout c.self.inside.counts (shown c.self.inside.parts) _ c.self.view_is c.in-None.is) spells)
