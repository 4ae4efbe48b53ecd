-- What is told of a group.
use Rattle.std.specs.Prelude.{ℕ, Bool, if◌then◌else◌, List, ◌++◌, codes}
use Rattle.std.specs.Fmt.{decimal}
use Rattle.std.specs.List.{flat_map}
use Rattle.ring_records.specs.declared.decision.Decision.{Decision}
use Rattle.ring_status.specs.declared.holder.Holder.{Holder}
use Rattle.ring_page.specs.Escaped.{escaped}

unfoldable pub link_start : List ℕ
link_start = codes "<tr><th><a href=\"/groups/"

unfoldable pub link_middle : List ℕ
link_middle = codes "\">"

-- the group, which leads to its page
abbrev pub link : List ℕ → List ℕ
link group = link_start ++ escaped group ++ link_middle ++ escaped group

-- its term, the node of its leader and its bid
unfoldable pub lead_told : ℕ → ℕ → ℕ → List ℕ
lead_told term node bid =
    codes "</a></th><td>" ++ (decimal term ++ (codes "</td><td>" ++ (decimal node ++ (codes "</td><td>" ++ (decimal bid
    ++ codes "</td></tr>\n")))))

abbrev pub lead_row : Decision → List ℕ
lead_row lead = link (lead.key).group ++ lead_told (lead.key).term (lead.leader).node (lead.leader).bid

unfoldable pub leaders_start : List ℕ
leaders_start = codes "<h2>Leaders</h2>\n<table>\n<tr><th>group</th><th>term</th><th>node</th><th>bid</th></tr>\n"

-- whether there are more groups
unfoldable pub leaders_end : Bool → List ℕ
leaders_end more =
    if more then codes "</table>\n<p>There are more: see /leaders.</p>\n" else codes "</table>\n"

abbrev pub leaders : List Decision → Bool → List ℕ
leaders leads more = leaders_start ++ flat_map lead_row leads ++ leaders_end more

-- ---- the page of a group

unfoldable pub leader_told : ℕ → ℕ → ℕ → List ℕ
leader_told term node bid =
    codes "</h1>\n<table>\n<tr><th>term</th><td>" ++ (decimal term ++ (codes "</td></tr>\n<tr><th>leader</th><td>node " ++ (decimal node
    ++ (codes ", bid " ++ (decimal bid ++ codes "</td></tr>\n")))))

abbrev pub yes_or_no : Bool → List ℕ
yes_or_no is_so = if is_so then codes "yes" else codes "no"

unfoldable pub holder_told : List ℕ → List ℕ → List ℕ
holder_told present resigned =
    codes "<tr><th>present</th><td>" ++ (present ++ (codes "</td></tr>\n<tr><th>resigned</th><td>" ++ (resigned
    ++ codes "</td></tr>\n<tr><th>text</th><td>")))

unfoldable pub group_end : List ℕ
group_end = codes "</td></tr>\n</table>\n<p><a href=\"/\">The ring</a></p>\n"

-- its latest leader, and what is known of who leads so
abbrev pub group_told : Decision → Holder → List ℕ
group_told lead holder =
    leader_told (lead.key).term (lead.leader).node (lead.leader).bid
    ++ holder_told (yes_or_no holder.present) (yes_or_no holder.resigned)
    ++ escaped (holder.text).now
    ++ group_end
