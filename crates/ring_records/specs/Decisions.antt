-- The leaders that inputs make known.
use Rattle.std.specs.Prelude.{ℕ, List, [], not}
use Rattle.std.specs.List.{filter}
use Rattle.ring_records.specs.declared.decision.Decision.{Decision}
use Rattle.ring_records.specs.declared.input.Input.{Input}
use Rattle.ring_records.specs.History.{is_retired}
use Rattle.ring_records.specs.Decided.{decided}
use Rattle.ring_records.specs.Lists.{found_after}

-- the leaders that they make known
unfoldable pub decisions : ℕ → List Input → List Input → List Decision
decisions me h l = found_after (decided me) h l

-- the decisions of keys that are not retired
unfoldable pub live_decisions : ℕ → List Input → List Decision
live_decisions me h = filter (λ d. not (is_retired h d.key)) (decisions me [] h)
