use Rattle.std.proofs.Common.{◌≡◌, ◌+◌, ◌-◌, ◌≤◌, ◌++◌, ℕ, List, length, take, drop}
use Rattle.gated_journal.specs.Found.{Holds, HasRoom, IsWaiting}
use Rattle.gated_journal.proofs.parts.take_all.Given as goal

abbrev pub invariant-loop-size : goal.invariant-loop-size
invariant-loop-size l =
    (l.taken + l.size ≤ length l.bytes)
    × (l.found.at ≡ l.fn.found.at + (l.taken + l.size))
    × (l.found.snapshot.n ≡ l.fn.found.snapshot.n)
    × (l.found.snapshot.layout ≡ l.fn.found.snapshot.layout)
    × ((from : List ℕ) → l.fn.found.at ≡ length from → Holds l.layout l.fn.found from l.bytes → Holds l.layout l.found (from ++ take (l.taken + l.size) l.bytes) (drop (l.taken + l.size) l.bytes))
    × ((from : List ℕ) → l.fn.found.at ≡ length from → Holds l.layout l.fn.found from l.bytes → l.size ≡ 0 → IsWaiting l.found.stage (drop l.taken l.bytes))
    × (1 ≤ l.size → HasRoom l.found (length l.bytes - (l.taken + l.size)))

abbrev pub decreases-loop-size : goal.decreases-loop-size
decreases-loop-size l = length l.bytes - l.taken
