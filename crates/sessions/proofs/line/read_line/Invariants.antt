use Rattle.std.proofs.Common.{◌≡◌, ◌≢◌, ◌≤◌, length, vec_capacity}
use Rattle.std.specs.List.{All}
use Rattle.std.specs.Io.KnownBytes.{Consumes}
use Rattle.sessions.proofs.line.read_line.Given as goal

-- what was read is kept
abbrev pub invariant-loop : goal.invariant-loop
invariant-loop g l = record {
  taken : Consumes (g.R.Read.remaining l.fn.reader) (g.R.Read.remaining l.reader) l.line.items;
  counted : length l.line.items ≡ l.counter;
  room : 202 ≤ vec_capacity l.line;
  plain : All (λ b. b ≢ 10) l.line.items;
}
