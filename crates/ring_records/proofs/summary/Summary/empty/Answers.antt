use Rattle.std.proofs.Common.{List, sym, subst}
use Rattle.std.specs.List.Sorted.{IsStrictlySortedBy}
use Rattle.ring_records.specs.declared.key.Key.{Key}
use Rattle.ring_records.specs.declared.key_state.KeyState.{KeyState}
use Rattle.ring_records.specs.FloorLists.{by_group}
use Rattle.ring_records.specs.StateOrder.{by_state}
use Rattle.ring_records.proofs.summary.Summary.empty.Goals as goal

pub from_sorted-requires : goal.from_sorted-requires
unfolding IsStrictlySortedBy
from_sorted-requires c = subst (λ (l : List KeyState). IsStrictlySortedBy by_state l) (sym c.new.ensures.items) tt

pub from_sorted-requires-2 : goal.from_sorted-requires-2
unfolding IsStrictlySortedBy
from_sorted-requires-2 c = subst (λ (l : List Key). IsStrictlySortedBy by_group l) (sym c.new-3.ensures.items) tt
