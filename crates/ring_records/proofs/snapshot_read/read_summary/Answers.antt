use Rattle.std.proofs.Common.{subst, sym, arith, inr, refl}
use Rattle.ring_records.specs.Snapshot.{Spells}
use Rattle.ring_records.proofs.SnapshotWhole.{plain-spelled, not-plain}
use Rattle.ring_records.proofs.snapshot_read.read_summary.Goals as goal

pub returns-in-empty-clause-found : goal.returns-in-empty-clause-found
returns-in-empty-clause-found c =
    subst (λ s. Spells c.args.layout c.args.n c.args.bytes.now s) (sym c.empty.ensures)
    (plain-spelled c.args.layout c.args.n c.args.bytes.now (omega (arith, c.if-layout-ge-OLDEST_AREA.false)) (omega (arith, c.in-empty.len_below)))

pub returns-in_default-clause-broken : goal.returns-in_default-clause-broken
returns-in_default-clause-broken c =
    inr (refl, λ s spells. not-plain c.args.layout c.args.n c.args.bytes.now s (omega (arith, c.if-layout-ge-OLDEST_AREA.false)) spells (omega (arith, c.in_default.len_at_least)))
