-- The order of states.
use Rattle.std.specs.declared.cmp.Ordering.{Ordering}
use Rattle.ring_records.specs.declared.key_state.KeyState.{KeyState}
use Rattle.ring_records.specs.KeyOrder.{key_cmp}

-- the order of states: by key
abbrev pub by_state : KeyState → KeyState → Ordering
by_state a b = key_cmp a.key b.key
