use Rattle.std.proofs.Common.{ℕ, ◌+◌, ◌<◌, List}
use Rattle.ring_records.specs.declared.input.Input.{Input}
use Rattle.ring_records.specs.Fitting.{LeadersFit}
use Rattle.ring_start.specs.Fits.{found_as, ArePasts, history}
use Rattle.ring_start.proofs.look_over.look_at_leaders.Given as goal

-- the nodes before this place know no different leaders
abbrev pub invariant-loop-place : goal.invariant-loop-place
invariant-loop-place g l = (pasts : ℕ → List Input) → ArePasts found_as pasts l.ring → (m : ℕ) → m < l.place → (k : ℕ) → k < m → LeadersFit (k + 1) (m + 1) (history found_as pasts l.ring (k + 1)) (history found_as pasts l.ring (m + 1))
