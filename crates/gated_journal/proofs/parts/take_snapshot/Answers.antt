use Rattle.std.proofs.Common.{◌≡◌, ◌≤◌, List, [], ℕ, drop, refl, sym, ◌∙◌, ap, subst, take, arith, ◌++◌, length-take}
use Rattle.ring_records.specs.SnapshotPart.{NoMore}
use Rattle.gated_journal.specs.Found.{IsFound}
use Rattle.gated_journal.proofs.AreaParts.{take_twice, unmoved, snapshot_more, snapshot_broken}
use Rattle.gated_journal.proofs.parts.take_snapshot.Goals as goal
use Rattle.gated_journal.specs.declared.found.Stage.TheVariants.{Snapshot, Damaged}

pub returns-then-bytes-least-clause-holds : goal.returns-then-bytes-least-clause-holds
returns-then-bytes-least-clause-holds c = λ layout taken here s some.
    unmoved layout c.args.snapshot.now.n (Snapshot c.args.left) c.args.snapshot.now.taken [] taken c.args.bytes.now (s, (some, refl))

pub returns-then-bytes-least-clause-waits : goal.returns-then-bytes-least-clause-waits
returns-then-bytes-least-clause-waits c = λ some e. (omega (arith, c.if-bytes-least.true, c.min-least.ensures), omega (arith, c.if-bytes-least.true, c.min-least.ensures))

pub returns-in-Some-clause-holds : goal.returns-in-Some-clause-holds
returns-in-Some-clause-holds c = λ layout taken here s some.
    let bytes = c.args.bytes.now in
    let size = c.in-Some.size in
    let there = c.min-there.result in
    let fits : size ≤ there = omega (arith, c.in-Some.ensures.none.1, length-take there bytes) in
    let is : c.take.new.self.taken ≡ c.args.snapshot.now.taken ++ take size bytes = c.in-Some.ensures.part ∙ ap (λ (l : List ℕ). c.args.snapshot.now.taken ++ l) (take_twice size there bytes fits) in
    c.stage_behind.ensures layout (taken ++ take size bytes) (drop size bytes) (c.take.ensures.layout ∙ here)
    (snapshot_more layout c.args.snapshot.now.taken c.take.new.self.taken taken bytes c.args.left size s is (omega (arith, fits, c.min-there.ensures)) (omega (arith, fits, c.min-there.ensures)))

pub returns-in-None-clause-holds : goal.returns-in-None-clause-holds
returns-in-None-clause-holds c = λ layout taken here s some.
    let bytes = c.args.bytes.now in
    let n = c.args.snapshot.now.n in
    let snapshot = c.args.snapshot.now.taken in
    subst (λ (k : ℕ). IsFound layout k (Damaged 0) snapshot [] (taken ++ take 0 bytes) (drop 0 bytes)) (sym c.take.ensures.n)
    (unmoved layout n (Damaged 0) snapshot [] taken bytes (
      omega arith,
      λ more. snapshot_broken layout n snapshot taken bytes c.args.left c.min-there.result s some c.min-there.ensures (λ less. omega (arith, less, c.if-bytes-least.false, c.min-least.ensures, c.min-there.ensures)) (subst (λ (k : ℕ). NoMore k n snapshot (take c.min-there.result bytes)) here c.in-None.ensures.part) more,
    ))
