-- Runs of a ring of n nodes.
use Rattle.std.specs.Prelude.{ℕ, ◌≡◌, ◌≤◌, List, [], length, Some, slice_get}
use Rattle.ring_records.specs.declared.input.Input.{Input}
use Rattle.ring_records.specs.declared.input.Input.TheVariants.{Stand, Take, Acked, Retire}
use Rattle.ring_records.specs.Allowed.{IsAllowed}
use Rattle.ring_records.specs.Emission.{sent}
use Rattle.ring_records.specs.History.{taken}
use Rattle.ring_records.specs.Lists.{EachAfter}
use Rattle.ring_records.specs.Part.{part}
use Rattle.ring_records.specs.Place.{before, after}

-- a message that is taken was sent by the node before, and the node after took as many as are credited
unfoldable pub IsCarried : ℕ → List (ℕ × Input) → ℕ → Input → Type 0
IsCarried n run i (Stand key bid) = Unit {0}
IsCarried n run i (Take msg_no msg) = slice_get (sent (before n i) (part run (before n i))) msg_no ≡ Some msg
IsCarried n run i (Acked upto) = upto ≤ length (taken (part run (after n i)))
IsCarried n run i (Retire group floor) = Unit {0}

-- the step, an input at a node, may come after the run
pub record MayFollow (n : ℕ) (run : List (ℕ × Input)) (step : ℕ × Input) : Type 0 where
  pub first : 1 ≤ step.0
  pub last : step.0 ≤ n
  pub allowed : IsAllowed step.0 n (part run step.0) step.1
  pub carried : IsCarried n run step.0 step.1

-- Ring run: each step may come after those before it. Of room nothing is said: what holds of every run of this kind holds
-- whatever the nodes' journals have room for.
unfoldable pub IsLegal : ℕ → List (ℕ × Input) → Type 0
IsLegal n run = EachAfter (MayFollow n) [] run
