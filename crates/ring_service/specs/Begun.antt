-- What is left of the inputs that a token of a hub speaks of, and of what rests on them.
use Rattle.std.specs.Prelude.{ℕ, Bool, List, ◌++◌}
use mathlib.Core.List.{IsPrefix}
use Rattle.ring_records.specs.declared.input.Input.{Input}
use Rattle.ring_records.specs.declared.summary.Summary.{Summary}
use Rattle.ring_records.specs.Member.{Member}
use Rattle.ring_records.specs.States.{NodeState, left_by}
use Rattle.group_commit.specs.Past.{IsPast}
use Rattle.node_store.specs.State.{IsLeft}

-- A stop may have left this image of the node, and whatever it is opened as begins with the past and these inputs since.
pub record BeginsBehind (member : Member) (past begun : List Input) (image : List ℕ) : Type 0 where
  pub state : NodeState
  pub left : IsLeft member state image
  pub begins : (keep : Bool) → IsPrefix (past ++ begun) (left_by keep state).inputs

-- so it is whatever past of the node the opening is of
abbrev pub Begins : Member → Summary → List Input → List ℕ → Type 0
Begins member opening begun image = (past : List Input) → IsPast member opening past → BeginsBehind member past begun image
