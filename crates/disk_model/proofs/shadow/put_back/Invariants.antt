use Rattle.std.proofs.Common.{◌≡◌, ◌<◌, ◌≤◌, ℕ, length, get_or}
use Rattle.disk_model.specs.Old.{old_byte}
use Rattle.disk_model.proofs.shadow.put_back.Given as goal

abbrev pub invariant-loop-i : goal.invariant-loop-i
invariant-loop-i l = record {
  len : length l.bytes.items ≡ length l.initial.bytes.items;
  done : (k : ℕ) → k < l.i → get_or l.bytes.items k 0 ≡ old_byte l.stamps l.stretch l.old l.initial.bytes.items k;
  behind : (k : ℕ) → l.i ≤ k → get_or l.bytes.items k 0 ≡ get_or l.initial.bytes.items k 0;
}
