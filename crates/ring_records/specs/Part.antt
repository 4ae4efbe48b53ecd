-- What belongs to one node of what happens at all.
use Rattle.std.specs.Prelude.{ℕ, ◌==◌, if◌then◌else◌, List, Option, Some, None}
use Rattle.std.specs.List.{filter_map}

unfoldable pub item_at : {A : Type 0} → ℕ → ℕ × A → Option A
item_at i step = if step.0 == i then Some step.1 else None

-- what belongs to node i, as its inputs in a run
unfoldable pub part : {A : Type 0} → List (ℕ × A) → ℕ → List A
part run i = filter_map (item_at i) run
