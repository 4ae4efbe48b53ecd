use Rattle.std.proofs.Common.{◌≡◌, ◌+◌, ◌-◌, ◌*◌, ◌≤◌, ◌++◌, ℕ, List, length, take, drop, vec_len, vec_capacity}
use Rattle.gated_journal.specs.Found.{IsWaiting}
use Rattle.gated_journal.specs.Listed.{Lists, IsListed}
use Rattle.gated_journal.specs.declared.found.Stage.TheVariants.{Frames, Damaged}
use Rattle.gated_journal.proofs.listed.take_list.Given as goal

abbrev pub invariant-loop-next : goal.invariant-loop-next
invariant-loop-next l = record {
  within : l.taken + l.next.1 ≤ length l.bytes;
  lists : (from : List ℕ) → Lists 1 from l.fn.inputs.items
      → IsListed 1 l.next.0 (from ++ take (l.taken + l.next.1) l.bytes) l.inputs.items (drop (l.taken + l.next.1) l.bytes);
  waits : l.next.1 ≡ 0 → IsWaiting l.next.0 (drop l.taken l.bytes);
  room : 1 ≤ l.next.1 → length l.bytes - (l.taken + l.next.1) ≤ 7 * (vec_capacity l.inputs - vec_len l.inputs);
  damaged : (p : ℕ) → l.next.0 ≡ Damaged p → p ≡ l.fn.at + l.taken;
  more : 1 ≤ l.next.1 → l.next.0 ≡ Frames;
}

abbrev pub decreases-loop-next : goal.decreases-loop-next
decreases-loop-next l = length l.bytes - l.taken
