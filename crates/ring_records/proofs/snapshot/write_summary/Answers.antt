use Rattle.std.proofs.Common.{ℕ, List, arith, ◌++◌, length, ap, sym, ◌∙◌}
use Rattle.std.specs.List.{flat_map}
use Rattle.ring_records.specs.Snapshot.{counts_bytes, state_bytes, msg_bytes, floors_bytes}
use Rattle.ring_records.proofs.Snapshots.{length-snapshot, snapshot-plain, snapshot-parts}
use Rattle.ring_records.proofs.snapshot.write_summary.Goals as goal

pub returns-then-layout-lt-OLDEST_AREA-clause-value : goal.returns-then-layout-lt-OLDEST_AREA-clause-value
returns-then-layout-lt-OLDEST_AREA-clause-value c = c.new-out.ensures.items ∙ sym (snapshot-plain c.args.layout c.args.summary.now (omega (arith, c.if-layout-lt-OLDEST_AREA.true)))

pub returns-then-layout-lt-OLDEST_AREA-clause-len : goal.returns-then-layout-lt-OLDEST_AREA-clause-len
returns-then-layout-lt-OLDEST_AREA-clause-len c = ap length (returns-then-layout-lt-OLDEST_AREA-clause-value c) ∙ length-snapshot c.args.layout c.args.summary.now

pub returns-clause-value : goal.returns-clause-value
returns-clause-value c =
    let counts = c.in_ok-put_counts.ensures ∙ (λ i. c.new-out.ensures.items i ++ counts_bytes c.args.summary.now (c.len.ensures i)) in
    let states = c.in_ok-put_states.ensures ∙ (λ i. counts i ++ flat_map state_bytes (sym c.as_slice.ensures.values i)) in
    let msgs = c.in_ok-put_messages.ensures ∙ (λ i. states i ++ flat_map msg_bytes (c.as_slice-2.ensures i)) in
    c.in_ok-put_floors.ensures ∙ ap (λ (l : List ℕ). l ++ floors_bytes c.args.layout c.args.summary.now) msgs
    ∙ sym (snapshot-parts c.args.layout c.args.summary.now (omega (arith, c.if-layout-lt-OLDEST_AREA.false)))

pub returns-clause-len : goal.returns-clause-len
returns-clause-len c = ap length (returns-clause-value c) ∙ length-snapshot c.args.layout c.args.summary.now
