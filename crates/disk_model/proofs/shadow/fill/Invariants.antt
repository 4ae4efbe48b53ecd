use Rattle.std.proofs.Common.{◌≡◌, ◌<◌, ◌≤◌, ℕ, true, false, length, get_or}
use Rattle.disk_model.specs.Old.{is_stamped}
use Rattle.disk_model.proofs.shadow.fill.Given as goal

abbrev pub invariant-loop-i : goal.invariant-loop-i
invariant-loop-i l = record {
  len : length l.bytes.items ≡ length l.initial.bytes.items;
  stamped : (k : ℕ) → k < l.i → is_stamped l.stamps l.stretch k ≡ true → get_or l.bytes.items k 0 ≡ l.byte;
  others : (k : ℕ) → is_stamped l.stamps l.stretch k ≡ false → get_or l.bytes.items k 0 ≡ get_or l.initial.bytes.items k 0;
  behind : (k : ℕ) → l.i ≤ k → get_or l.bytes.items k 0 ≡ get_or l.initial.bytes.items k 0;
}
