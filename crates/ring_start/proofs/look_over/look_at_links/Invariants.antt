use Rattle.std.proofs.Common.{ℕ, ◌+◌, ◌<◌, List, length}
use Rattle.ring_records.specs.declared.input.Input.{Input}
use Rattle.ring_records.specs.Fitting.{LinkFits}
use Rattle.ring_records.specs.Place.{after}
use Rattle.ring_start.specs.Fits.{found_as, ArePasts, history, IsKnown}
use Rattle.ring_start.proofs.look_over.look_at_links.Given as goal

-- the links of the nodes before this place fit
abbrev pub invariant-loop-place : goal.invariant-loop-place
invariant-loop-place g l = (pasts : ℕ → List Input) → ArePasts found_as pasts l.ring → (k : ℕ) → k < l.place
    → LinkFits (IsKnown found_as (length l.ring) l.ring (k + 1)) (k + 1) (history found_as pasts l.ring (k + 1)) (history found_as pasts l.ring (after (length l.ring) (k + 1)))
