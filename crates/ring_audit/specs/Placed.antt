-- How an audit goes on.
use Rattle.std.specs.Prelude.{ℕ, ◌≡◌, ◌≤◌, ◌<◌, List, length, take, slice_get, Some}
use Rattle.ring_records.specs.declared.input.Input.{Input}
use Rattle.ring_records.specs.Ring.{MayFollow, IsLegal}
use Rattle.ring_records.specs.Part.{part}
use Rattle.ring_audit.specs.Placement.{history_of}

-- a legal run whose parts are prefixes of the histories
pub record IsPlaced (hs : List (List Input)) (run : List (ℕ × Input)) : Type 0 where
  pub legal : IsLegal (length hs) run
  pub parts : (i : ℕ) → 1 ≤ i → i ≤ length hs → part run i ≡ take (length (part run i)) (history_of hs i)

-- the greatest of them: no other places more inputs of any node
pub record IsPlacement (hs : List (List Input)) (run : List (ℕ × Input)) : Type 0 where
  pub placed : IsPlaced hs run
  pub greatest : (other : List (ℕ × Input)) → IsPlaced hs other → (i : ℕ) → 1 ≤ i → i ≤ length hs → length (part other i) ≤ length (part run i)

-- The node is the lowest whose history is not placed whole, and so many of its inputs are placed.
pub record IsStuck (hs : List (List Input)) (node place : ℕ) : Type 0 where
  pub run : List (ℕ × Input)
  pub placement : IsPlacement hs run
  pub low : 1 ≤ node
  pub high : node ≤ length hs
  pub count : place ≡ length (part run node)
  pub left : place < length (history_of hs node)
  pub lowest : (i : ℕ) → 1 ≤ i → i < node → part run i ≡ history_of hs i

-- the input is the next of the history of node i behind the run, and may follow there
pub record IsNext (hs : List (List Input)) (run : List (ℕ × Input)) (i : ℕ) (x : Input) : Type 0 where
  pub next : slice_get (history_of hs i) (length (part run i)) ≡ Some x
  pub follows : MayFollow (length hs) run (i, x)
