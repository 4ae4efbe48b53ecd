use Rattle.std.proofs.Common.{◌+◌, ◌*◌, ◌-◌, ◌≤◌, length, vec_len, vec_capacity}
use Rattle.gated_journal.specs.NextFrame.{TakesRecords}
use Rattle.gated_journal.proofs.next_frame.take_records.Given as goal

abbrev pub invariant-loop : goal.invariant-loop
invariant-loop l =
    TakesRecords l.layout l.initial.inputs.items l.inputs.items l.counter l.bytes l.rest
    × (7 * (vec_capacity l.initial.inputs - vec_len l.initial.inputs) + length l.rest ≤ 7 * (vec_capacity l.inputs - vec_len l.inputs) + length l.bytes)
