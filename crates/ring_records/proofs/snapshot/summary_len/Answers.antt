use Rattle.std.proofs.Common.{ap, sym, ◌∙◌, arith}
use Rattle.std.specs.List.{sum_by}
use Rattle.ring_records.specs.Admission.{state_len, msg_len}
use Rattle.ring_records.proofs.Snapshots.{length-plain, length-parts}
use Rattle.ring_records.proofs.snapshot.summary_len.Goals as goal

pub returns-then-layout-lt-OLDEST_AREA-clause-value : goal.returns-then-layout-lt-OLDEST_AREA-clause-value
returns-then-layout-lt-OLDEST_AREA-clause-value c = sym (length-plain c.args.layout c.args.summary.now (omega (arith, c.if-layout-lt-OLDEST_AREA.true)))

pub returns-clause-value : goal.returns-clause-value
returns-clause-value c =
    let states = c.states_len-states.ensures.value ∙ ap (sum_by state_len) (sym c.as_slice.ensures.values) in
    let msgs = c.messages_len.ensures.value ∙ ap (sum_by msg_len) c.as_slice-2.ensures in
    let floors = c.floors_len.ensures.value in
    let len = length-parts c.args.layout c.args.summary.now (omega (arith, c.if-layout-lt-OLDEST_AREA.false)) in
    omega arith
