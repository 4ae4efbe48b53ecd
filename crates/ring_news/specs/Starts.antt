-- How far the start of a ring is.
use Rattle.std.specs.Prelude.{Bool, false, Option, Some, None, Result, Ok, Err}
use Rattle.ring_news.specs.declared.starting.Shortage.{Shortage}

-- what a node lacks that told so
abbrev pub lack : Result (Unit {0}) Shortage → Option Shortage
lack (Ok x) = None
lack (Err shortage) = Some shortage

abbrev pub outcome_of : Option Shortage → Result (Unit {0}) Shortage
outcome_of None = Ok tt
outcome_of (Some shortage) = Err shortage

-- all are let go, to serve
abbrev pub serves : Option Bool → Bool
serves None = false
serves (Some answer) = answer
