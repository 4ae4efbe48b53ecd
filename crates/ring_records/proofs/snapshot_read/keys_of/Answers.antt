use Rattle.std.proofs.Common.{◌+◌, ◌-◌, sym, ap, ◌∙◌, arith}
use Rattle.ring_records.specs.RecordReading.{key_at}
use Rattle.ring_records.specs.SnapshotRead.{items_at, behind_these}
use Rattle.ring_records.proofs.ItemsRead.{one_read, none_read, all_read, broken}
use Rattle.ring_records.proofs.snapshot_read.keys_of.Goals as goal

pub returns-in-Err-clause-broken : goal.returns-in-Err-clause-broken
returns-in-Err-clause-broken c =
    let below = c.loop-i-test.true in
    broken (items_at key_at c.args.count c.args.bytes.now) _ (none_read key_at _ c.loop-i.keys.items c.loop-i.rest.now (c.args.count - c.loop-i.i) (c.args.count - (c.loop-i.i + 1)) _ c.loop-i.invariant (omega arith) c.in-Err.ensures)

pub loop-i-preserved : goal.loop-i-preserved
loop-i-preserved c =
    let below = c.loop-i-test.true in
    one_read key_at _ c.loop-i.keys.items c.loop-i.rest.now _ _ (c.args.count - c.loop-i.i) (c.args.count - (c.loop-i.i + 1)) c.loop-i.invariant (omega arith) c.in-Ok.ensures
    ∙ ap (λ xs. behind_these xs (items_at key_at (c.args.count - (c.loop-i.i + 1)) c.in-Ok.x.1.now)) (sym c.in-Ok-extend_from_slice.ensures.items)

pub returns-clause-found : goal.returns-clause-found
returns-clause-found c =
    let stop = c.loop-i-test.false in
    all_read key_at _ c.loop-i.keys.items c.loop-i.rest.now (c.args.count - c.loop-i.i) c.loop-i.invariant (omega arith)
