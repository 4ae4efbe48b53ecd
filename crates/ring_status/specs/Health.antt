-- Whether each node takes what it should, and whether the ring can elect.
use Rattle.std.specs.Prelude.{ℕ, ◌-◌, ◌*◌, nat_le, Bool, true, false, not, ◌&&◌, ◌||◌, if◌then◌else◌, ◌==◌, List, [], ◌++◌, length, codes}
use Rattle.std.specs.Fmt.{decimal}
use Rattle.std.specs.List.{flat_map, list_all, list_any}
use Rattle.ring_records.specs.declared.limits.TheConstants.{STANDS}
use Rattle.ring_status.specs.declared.holding.Holding.{Holding}
use Rattle.ring_status.specs.declared.holding.TheConstants.{HANG_SECONDS}
use Rattle.ring_status.specs.declared.values.Condition.{Condition}
use Rattle.ring_status.specs.declared.values.Condition.TheVariants.{Well, Limit, Full, Hangs, Failed}
use Rattle.ring_status.specs.declared.values.NodeStatus.{NodeStatus}

-- a device hangs that has been busy with a batch or a checkpoint for so many seconds
abbrev pub hangs_after : ℕ → Bool
hangs_after writing = nat_le HANG_SECONDS writing

-- What a node takes that holds so much, whose device has been busy with a batch or a checkpoint for so many seconds: nothing
-- where it takes no requests; none is durable behind ten seconds; no Stand that would leave less than the reserve free; no
-- message where no checkpoint makes room for it; and a node takes 1,024 Stands at most.
abbrev pub condition_of : Holding → ℕ → Condition
condition_of held writing =
    if not held.is_open then Failed
    else (if hangs_after writing then Hangs
    else (if not held.takes_stands || held.lacks_room then Full
    else (if nat_le STANDS held.stands then Limit
    else Well)))

-- the snapshot takes a quarter of the capacity at most
abbrev pub is_renewable : Holding → Bool
is_renewable held = nat_le (4 * held.snapshot) held.capacity

abbrev pub stands_left : Holding → ℕ
stands_left held = STANDS - held.stands

abbrev pub takes : Condition → Bool
takes Well = true
takes Limit = false
takes Full = false
takes Hangs = false
takes Failed = false

abbrev pub is_well : NodeStatus → Bool
is_well node = takes node.condition

abbrev pub all_well : List NodeStatus → Bool
all_well nodes = list_all is_well nodes

-- the line of a node that does not take what it should
abbrev pub line_for : ℕ → Condition → List ℕ
line_for node Well = []
line_for node Limit = codes "node " ++ decimal node ++ codes " limit\n"
line_for node Full = codes "node " ++ decimal node ++ codes " full\n"
line_for node Hangs = codes "node " ++ decimal node ++ codes " hangs\n"
line_for node Failed = codes "node " ++ decimal node ++ codes " failed\n"

abbrev pub fault_text : NodeStatus → List ℕ
fault_text node = line_for node.place.node node.condition

-- the line of a node of which no door was free
abbrev pub doorless_text : ℕ → List ℕ
doorless_text node = codes "node " ++ decimal node ++ codes " has no door free\n"

abbrev pub has_failed : NodeStatus → Bool
has_failed node = of node.condition where
  of : Condition → Bool
  of Well = false
  of Limit = false
  of Full = false
  of Hangs = false
  of Failed = true

abbrev pub hangs : NodeStatus → Bool
hangs node = of node.condition where
  of : Condition → Bool
  of Well = false
  of Limit = false
  of Full = false
  of Hangs = true
  of Failed = false

abbrev pub is_full : NodeStatus → Bool
is_full node = of node.condition where
  of : Condition → Bool
  of Well = false
  of Limit = false
  of Full = true
  of Hangs = false
  of Failed = false

abbrev pub is_at_limit : NodeStatus → Bool
is_at_limit node = of node.condition where
  of : Condition → Bool
  of Well = false
  of Limit = true
  of Full = false
  of Hangs = false
  of Failed = false

-- what helps against the worst of what is told
unfoldable pub help_for : List NodeStatus → List ℕ
help_for nodes =
    if list_any has_failed nodes then codes "see the disk, and start ringd again"
    else if list_any hangs nodes then codes "see the disk"
    else if list_any is_full nodes then codes "retire old terms"
    else if list_any is_at_limit nodes then codes "retire old terms, or stand at other nodes"
    else codes "give more doors, or less idle time"

abbrev pub help_line : List NodeStatus → List ℕ
help_line nodes = codes "help: " ++ help_for nodes ++ codes "\n"

unfoldable pub health_body : List NodeStatus → List ℕ → List ℕ
health_body nodes doorless = if all_well nodes && (length doorless == 0) then codes "well\n" else flat_map fault_text nodes ++ flat_map doorless_text doorless ++ help_line nodes

-- ---- whether the ring can elect

-- a message passes the node
abbrev pub carries : NodeStatus → Bool
carries node = of node.condition where
  of : Condition → Bool
  of Well = true
  of Limit = true
  of Full = false
  of Hangs = false
  of Failed = false

-- a message passes each node, and a node takes Stands
unfoldable pub can_elect : List NodeStatus → Bool
can_elect nodes = list_all carries nodes && list_any is_well nodes

-- the line of a node that no message passes
abbrev pub blocked_text : NodeStatus → List ℕ
blocked_text node = if carries node then [] else fault_text node

-- those that no message passes, or all where none takes Stands
unfoldable pub not_ready : List NodeStatus → List ℕ
not_ready nodes = if list_any is_well nodes then flat_map blocked_text nodes else flat_map fault_text nodes

unfoldable pub ready_body : List NodeStatus → List ℕ
ready_body nodes = if can_elect nodes then codes "ready\n" else not_ready nodes
