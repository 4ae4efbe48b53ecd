-- What is told of each node, in the table and in the picture.
use Rattle.std.specs.Prelude.{ℕ, ◌==◌, if◌then◌else◌, ◌-◌, ◌*◌, ◌/◌, max, List, [], ◌++◌, length, codes}
use Rattle.std.specs.Fmt.{decimal}
use Rattle.std.specs.List.{flat_map}
use Rattle.ring_records.specs.declared.decision.Decision.{Decision}
use Rattle.ring_status.specs.Data.{condition_text}
use Rattle.ring_status.specs.declared.values.NodeStatus.{NodeStatus}
use Rattle.ring_page.specs.Escaped.{escaped}

-- ---- the table

-- its number, its port and its condition
unfoldable pub who : List ℕ → ℕ → ℕ → List ℕ
who state node port =
    codes "<tr class=\"" ++ (state ++ (codes "\"><th>" ++ (decimal node ++ (codes "</th><td>" ++ (decimal port
    ++ (codes "</td><td>" ++ (state ++ codes "</td>\n")))))))

-- its inputs, and how many of them are durable
unfoldable pub inputs_told : ℕ → ℕ → List ℕ
inputs_told inputs durable = codes "<td>" ++ (decimal inputs ++ (codes "</td><td>" ++ (decimal durable ++ codes "</td>\n")))

-- how much of its capacity is taken, as a bar and in numbers
unfoldable pub room_told : ℕ → ℕ → List ℕ
room_told used capacity =
    codes "<td><meter max=\"" ++ (decimal capacity ++ (codes "\" value=\"" ++ (decimal used ++ (codes "\"></meter> "
    ++ (decimal used ++ (codes " of " ++ (decimal capacity ++ codes "</td>\n")))))))

-- the messages that wait, the doors with a session, and the Stands that it still takes
unfoldable pub work_told : ℕ → ℕ → ℕ → ℕ → List ℕ
work_told waiting busy doors left =
    codes "<td>" ++ (decimal waiting ++ (codes "</td><td>" ++ (decimal busy ++ (codes " of " ++ (decimal doors
    ++ (codes "</td><td>" ++ (decimal left ++ codes "</td>\n")))))))

-- how old its last checkpoint is, and how long its disk has been busy
unfoldable pub disk_told : ℕ → ℕ → List ℕ
disk_told age writing =
    codes "<td>" ++ (decimal age ++ (codes " s ago</td><td>" ++ (decimal writing ++ codes " s</td></tr>\n")))

abbrev pub row : NodeStatus → List ℕ
row node =
    who (condition_text node.condition) node.place.node node.place.port
    ++ inputs_told node.held.shown.inputs node.held.shown.durable
    ++ room_told node.held.used node.held.capacity
    ++ work_told node.letters.count node.counts.busy node.place.doors node.stands_left
    ++ disk_told node.checkpoint_age node.writing

unfoldable pub table_start : List ℕ
table_start = codes "<table>\n<tr><th>node</th><th>port</th><th>state</th><th>inputs</th><th>durable</th><th>bytes used</th><th>messages waiting</th><th>doors busy</th><th>Stands left</th><th>last checkpoint</th><th>writing</th></tr>\n"

unfoldable pub table_end : List ℕ
table_end = codes "</table>\n"

abbrev pub table : List NodeStatus → List ℕ
table nodes = table_start ++ flat_map row nodes ++ table_end

-- ---- the picture

-- at how many degrees a node of so many stands, clockwise from the top
abbrev pub turn : ℕ → ℕ → ℕ
turn node count = 360 * (node - 1) / max count 1

-- the way to the next node begins there
unfoldable pub way_drawn : ℕ → ℕ → List ℕ
way_drawn degrees half =
    codes "<path class=\"way\" transform=\"rotate(" ++ (decimal degrees ++ (codes ") rotate(" ++ (decimal half
    ++ codes ") translate(0 -220)\" d=\"M-5 -5L4 0L-5 5\"/>\n")))

-- its place, and its colour by its condition
unfoldable pub place_drawn : ℕ → List ℕ → List ℕ
place_drawn degrees state =
    codes "<g transform=\"rotate(" ++ (decimal degrees ++ (codes ") translate(0 -220) rotate(-" ++ (decimal degrees
    ++ (codes ")\"><circle class=\"" ++ (state ++ codes "\" r=\"21\"/>\n")))))

-- how much of its capacity is taken, as a part of a circle
unfoldable pub room_drawn : ℕ → ℕ → List ℕ
room_drawn used capacity =
    codes "<circle class=\"used\" r=\"25\" transform=\"rotate(-90)\" pathLength=\"" ++ (decimal capacity
    ++ (codes "\" stroke-dasharray=\"" ++ (decimal used ++ (codes " " ++ (decimal capacity ++ codes "\"/>\n")))))

-- its number, its condition and the messages that wait
unfoldable pub words_drawn : ℕ → List ℕ → ℕ → List ℕ
words_drawn node state waiting =
    codes "<text>" ++ (decimal node ++ (codes "</text><text y=\"12\">" ++ (state ++ (codes "</text><text y=\"38\">" ++ (decimal waiting
    ++ codes " waiting</text>\n")))))

-- its doors with a session, and how old its last checkpoint is; behind it stand, where a pointer is, the groups that it leads
unfoldable pub beside_drawn : ℕ → ℕ → ℕ → List ℕ
beside_drawn busy doors age =
    codes "<text y=\"49\">" ++ (decimal busy ++ (codes " of " ++ (decimal doors ++ (codes " doors busy</text><text y=\"60\">checkpoint " ++ (decimal age
    ++ codes " s ago</text><title>leads:")))))

abbrev pub lead_drawn : ℕ → Decision → List ℕ
lead_drawn node lead = if (lead.leader).node == node then codes " " ++ escaped (lead.key).group else []

unfoldable pub node_end : List ℕ
node_end = codes "</title></g>\n"

abbrev pub shape_drawn : ℕ → NodeStatus → List ℕ
shape_drawn count node =
    way_drawn (turn node.place.node count) (180 / max count 1)
    ++ place_drawn (turn node.place.node count) (condition_text node.condition)
    ++ room_drawn node.held.used node.held.capacity
    ++ words_drawn node.place.node (condition_text node.condition) node.letters.count

abbrev pub told_drawn : List Decision → NodeStatus → List ℕ
told_drawn leads node =
    beside_drawn node.counts.busy node.place.doors node.checkpoint_age ++ flat_map (lead_drawn node.place.node) leads ++ node_end

abbrev pub drawn : ℕ → List Decision → NodeStatus → List ℕ
drawn count leads node = shape_drawn count node ++ told_drawn leads node

unfoldable pub picture_start : List ℕ
picture_start = codes "<svg viewBox=\"-270 -260 540 560\" width=\"540\" height=\"560\" role=\"img\" aria-label=\"The ring, as in the table\">\n<circle class=\"way\" r=\"220\"/>\n"

unfoldable pub picture_end : List ℕ
picture_end = codes "</svg>\n"

abbrev pub picture : List NodeStatus → List Decision → List ℕ
picture nodes leads = picture_start ++ flat_map (drawn (length nodes) leads) nodes ++ picture_end
