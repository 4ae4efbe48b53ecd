-- The rule of what readers take, and what its steps tell.
use Rattle.std.specs.Prelude.{◌≡◌, ℕ, List}
use mathlib.Core.Option.{some}
use mathlib.Core.List.{IsPrefix}
use lib.ListN.{get_elem?}
use Rattle.ring_records.specs.declared.notice.Notice.{Notice}
use Rattle.decision_board.specs.declared.store.Store.{Store}
use Rattle.decision_board.specs.Leaders.{AreOf}

-- the copy stands for a beginning of this history
abbrev pub IsPosted : ℕ → Store → Type 0
IsPosted history x = AreOf x.leaders x.floors x.front.mark.notices × (x.front.mark.history ≡ history)

-- what each reader saw is a beginning of what is published
abbrev pub Keeps : ℕ → Store → List (List Notice) → Type 0
Keeps history x views = IsPosted history x × ((seat : ℕ) (v : List Notice) → get_elem? views seat ≡ some v → IsPrefix v x.front.mark.notices)

-- what is seen afterwards is what is published then, which begins with what was seen
abbrev pub Shows : ℕ → List Notice → Store → Store → List Notice → Type 0
Shows history v x y w = IsPosted history y × IsPrefix v w × (w ≡ y.front.mark.notices)
