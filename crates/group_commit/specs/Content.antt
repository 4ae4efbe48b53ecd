-- What a board is made of.
use Rattle.std.specs.Prelude.{ℕ, ◌≡◌, List, map, ◌++◌}
use Rattle.ring_records.specs.declared.decision.Decision.{Decision}
use Rattle.ring_records.specs.declared.input.Input.{Input}
use Rattle.ring_records.specs.declared.key.Key.{Key}
use Rattle.ring_records.specs.declared.notice.Notice.{Notice}
use Rattle.ring_records.specs.declared.notice.Notice.TheVariants.{Retired}
use Rattle.ring_records.specs.Floors.{floor_keys}
use Rattle.ring_records.specs.Notices.{decided_all}
use Rattle.ring_records.specs.Release.{AreLeaders}
use Rattle.ring_records.specs.Summary.{floors_in}

-- the notices of these floors
abbrev pub retired_all : List Key → List Notice
retired_all floors = map (λ (floor : Key). Retired floor.group floor.term) floors

-- the notices of these leaders, and then of these floors
abbrev pub content_of : List Decision → List Key → List Notice
content_of leaders floors = decided_all leaders ++ retired_all floors

-- The list has what node me knows by h: a notice for each key with a leader, in order of key, and then one for each floor, in
-- order of group.
pub record IsContent (me : ℕ) (h : List Input) (list : List Notice) : Type 0 where
  pub leaders : List Decision
  pub floors : List Key
  pub is : list ≡ content_of leaders floors
  pub lead : AreLeaders me h leaders
  pub stand : floors ≡ floor_keys (floors_in h)
