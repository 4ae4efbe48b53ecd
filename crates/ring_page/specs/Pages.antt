-- The pages.
use Rattle.std.specs.Prelude.{ℕ, ◌-◌, ◌/◌, ◌%◌, if◌then◌else◌, Bool, List, ◌++◌, codes}
use Rattle.std.specs.Fmt.{decimal}
use Rattle.ring_records.specs.declared.decision.Decision.{Decision}
use Rattle.ring_status.specs.Health.{can_elect, health_body}
use Rattle.ring_status.specs.declared.holder.Holder.{Holder}
use Rattle.ring_status.specs.declared.values.NodeStatus.{NodeStatus}
use Rattle.ring_status.specs.declared.values.RingStatus.{RingStatus}
use Rattle.ring_page.specs.Escaped.{escaped}
use Rattle.ring_page.specs.Frame.{end, start_of}
use Rattle.ring_page.specs.Leaders.{group_told, leaders}
use Rattle.ring_page.specs.Nodes.{picture, table}

unfoldable pub version_start : List ℕ
version_start = codes "</h1>\n<p>ringd "

-- for how long it has been there
unfoldable pub age_told : ℕ → List ℕ
age_told age =
    codes " for " ++ (decimal (age / 86400) ++ (codes " d " ++ (decimal (age % 86400 / 3600) ++ (codes " h " ++ (decimal (age % 3600 / 60) ++ codes " min. ")))))

abbrev pub ability : List NodeStatus → List ℕ
ability nodes = if can_elect nodes then codes "It can elect.</p>\n<pre>" else codes "It cannot elect.</p>\n<pre>"

unfoldable pub health_end : List ℕ
health_end = codes "</pre>\n"

-- of the ring: its program, whether it can elect, and what `/health` says
abbrev pub program_told : List ℕ → ℕ → ℕ → List ℕ
program_told version started now = version_start ++ escaped version ++ age_told (now - started)

abbrev pub health_told : List NodeStatus → List ℕ → List ℕ
health_told nodes doorless = ability nodes ++ health_body nodes doorless ++ health_end

abbrev pub top : RingStatus → ℕ → List ℕ
top ring now =
    start_of (ring.dir).now ++ program_told (ring.version).now ring.started now ++ health_told (ring.nodes).now (ring.doorless).now

abbrev pub bottom : List NodeStatus → List Decision → Bool → List ℕ
bottom nodes leads more = picture nodes leads ++ table nodes ++ leaders leads more ++ end

-- the ring in so many seconds of Unix time, with a page of leaders, behind which there may be more
unfoldable pub ring_body : RingStatus → ℕ → List Decision → Bool → List ℕ
ring_body ring now leads more = top ring now ++ bottom (ring.nodes).now leads more

-- a group, its latest leader, and what is known of who leads so
unfoldable pub group_body : Decision → Holder → List ℕ
group_body lead holder = start_of (lead.key).group ++ group_told lead holder ++ end
