use Rattle.std.proofs.Common.{ℕ, ◌+◌, ◌<◌, List}
use Rattle.ring_records.specs.declared.input.Input.{Input}
use Rattle.ring_start.specs.Fits.{found_as, ArePasts, history, Agrees}
use Rattle.ring_start.proofs.look_over.differing.Given as goal

-- the nodes before this place agree
abbrev pub invariant-loop-before : goal.invariant-loop-before
invariant-loop-before g l = (pasts : ℕ → List Input) → ArePasts found_as pasts l.ring → (k : ℕ) → k < l.before → Agrees (k + 1) (history found_as pasts l.ring (k + 1)) l.told
