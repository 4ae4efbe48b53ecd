use Rattle.std.proofs.Common.{◌+◌, ◌-◌, sym, ap, ◌∙◌, arith}
use Rattle.ring_records.specs.SnapshotRead.{state_at, items_at, behind_these}
use Rattle.ring_records.proofs.ItemsRead.{one_read, none_read, all_read, broken}
use Rattle.ring_records.proofs.snapshot_read.states_of.Goals as goal

pub returns-in-Err-clause-broken : goal.returns-in-Err-clause-broken
returns-in-Err-clause-broken c =
    let below = c.loop-i-test.true in
    broken (items_at (state_at c.args.n) c.args.count c.args.bytes.now) _ (none_read (state_at c.args.n) _ c.loop-i.states.items c.loop-i.rest.now (c.args.count - c.loop-i.i) (c.args.count - (c.loop-i.i + 1)) _ c.loop-i.invariant (omega arith) c.in-Err.ensures)

pub loop-i-preserved : goal.loop-i-preserved
loop-i-preserved c =
    let below = c.loop-i-test.true in
    one_read (state_at c.args.n) _ c.loop-i.states.items c.loop-i.rest.now _ _ (c.args.count - c.loop-i.i) (c.args.count - (c.loop-i.i + 1)) c.loop-i.invariant (omega arith) c.in-Ok.ensures
    ∙ ap (λ xs. behind_these xs (items_at (state_at c.args.n) (c.args.count - (c.loop-i.i + 1)) c.in-Ok.x.1.now)) (sym c.in-Ok-push_state.ensures)

pub returns-clause-found : goal.returns-clause-found
returns-clause-found c =
    let stop = c.loop-i-test.false in
    all_read (state_at c.args.n) _ c.loop-i.states.items c.loop-i.rest.now (c.args.count - c.loop-i.i) c.loop-i.invariant (omega arith)
