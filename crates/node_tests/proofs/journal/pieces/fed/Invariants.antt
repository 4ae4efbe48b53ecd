use Rattle.std.specs.Prelude.{◌≡◌, ◌+◌, ◌≤◌, length}
use Rattle.node_tests.proofs.journal.pieces.fed.Given as goal

-- what was fed and what is left are no more than the area's bytes
abbrev pub invariant-loop-i : goal.invariant-loop-i
invariant-loop-i g l = (l.reader.offset ≡ l.offset) × (length l.reader.bytes + length l.rest ≤ length l.area)
