use Rattle.std.proofs.Common.{◌≡◌, ◌⊎◌, ◌<◌, ◌≤◌, ℕ, length, get_or}
use Rattle.disk_model.specs.Old.{old_byte}
use Rattle.disk_model.proofs.shadow.save.Given as goal

abbrev pub invariant-loop-i : goal.invariant-loop-i
invariant-loop-i l = record {
  stamps_len : length l.stamps.items ≡ length l.initial.stamps.items;
  bytes_len : length l.bytes.items ≡ length l.initial.bytes.items;
  inside : (k : ℕ) → l.at ≤ k → k < l.i → get_or l.stamps.items k 0 ≡ l.stretch;
  outside : (k : ℕ) → (k < l.at) ⊎ (l.i ≤ k) → get_or l.stamps.items k 0 ≡ get_or l.initial.stamps.items k 0;
  kept : (k : ℕ) → old_byte l.stamps.items l.stretch l.bytes.items l.now k ≡ old_byte l.initial.stamps.items l.stretch l.initial.bytes.items l.now k;
}
