use Rattle.std.proofs.Common.{◌≡◌, ◌*◌, ◌≤◌, take}
use Rattle.std.specs.List.{sum_by}
use Rattle.ring_records.specs.Admission.{msg_len}
use Rattle.ring_records.proofs.snapshot.messages_len.Given as goal

abbrev pub invariant-loop-msg : goal.invariant-loop-msg
invariant-loop-msg l = (l.len ≡ sum_by msg_len (take l.msg-index l.messages)) × (l.len ≤ 27 * l.msg-index)
