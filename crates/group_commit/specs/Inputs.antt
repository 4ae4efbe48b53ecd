-- What a desk keeps of its inputs since its opening.
use Rattle.std.specs.Prelude.{◌≡◌, ◌≤◌, ◌<◌, true, take, Some, None, is_some, vec_len, vec_capacity}
use Rattle.ring_records.specs.declared.summary.Summary.{Summary}
use Rattle.ring_records.specs.Known.{after}
use Rattle.ring_records.specs.Member.{Member}
use Rattle.ring_records.specs.Snapshot.{IsSound}
use Rattle.ring_records.specs.States.{NodeState, launched_base}
use Rattle.node_core.specs.Core.{IsNodeOf}
use Rattle.group_commit.specs.declared.inputs.Inputs.{Inputs}

-- one input more takes no memory
pub record HasPlace (i : Inputs) : Type 0 where
  pub kept : vec_len i.kept < vec_capacity i.kept
  pub behind : is_some i.mark ≡ true → vec_len i.behind < vec_capacity i.behind

-- the same are gone, and the last checkpoint stands for the same
pub record KeepsMarks (old new : Inputs) : Type 0 where
  pub gone : new.gone ≡ old.gone
  pub known : new.known ≡ old.known
  pub marked : new.marked ≡ old.marked
  pub mark : new.mark ≡ old.mark

-- None is gone but those that the area in use stands for. The summaries are what the node knew by those that are gone, and by
-- those that the last checkpoint stands for, which are all that the area in use, or the one that flies, stands for.
pub record IsKept (m : Member) (opening : Summary) (s : NodeState) (i : Inputs) : Type 0 where
  pub gone : i.gone ≤ s.base.inputs
  pub none : i.known ≡ None → i.gone ≡ 0
  pub known : (k : Summary) → i.known ≡ Some k → (k ≡ after m.node opening (take i.gone s.inputs)) × IsSound m.n k
  pub unmarked : i.mark ≡ None → (s.checkpoint ≡ None) × (i.gone ≡ s.base.inputs)
  pub marked : (k : Summary) → i.mark ≡ Some k → i.marked ≡ (launched_base s).inputs
  pub mark : (k : Summary) → i.mark ≡ Some k → (k ≡ after m.node opening (take i.marked s.inputs)) × (IsNodeOf m.n m.node → IsSound m.n k)
