-- What an audit answers of the histories of a ring's nodes.
use Rattle.std.specs.Prelude.{◌≤◌, List, length}
use Rattle.ring_records.specs.declared.input.Input.{Input}

-- a ring has 2 to 16 nodes
abbrev pub HasShape : List (List Input) → Type 0
HasShape hs = (2 ≤ length hs) × (length hs ≤ 16)
