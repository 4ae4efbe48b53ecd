-- The text for Prometheus.
use Rattle.std.specs.Prelude.{ℕ, if◌then◌else◌, List, [], ◌∷◌, ◌++◌, codes, Option, Some, None, option_map}
use Rattle.std.specs.Fmt.{decimal}
use Rattle.std.specs.List.{flat_map}
use Rattle.ring_records.specs.declared.limits.TheConstants.{LAYOUT}
use Rattle.ring_status.specs.Bounds.{seconds_text}
use Rattle.ring_status.specs.declared.metric.Metric.{Metric}
use Rattle.ring_status.specs.declared.metric.Metric.TheVariants as of
use Rattle.ring_status.specs.declared.process.Process.{Process}
use Rattle.ring_status.specs.declared.values.CommitTimes.{CommitTimes}
use Rattle.ring_status.specs.declared.values.Condition.{Condition}
use Rattle.ring_status.specs.declared.values.Condition.TheVariants.{Well, Limit, Full, Hangs, Failed}
use Rattle.ring_status.specs.declared.values.NodeStatus.{NodeStatus}
use Rattle.ring_status.specs.declared.values.RefusalCount.{RefusalCount}
use Rattle.ring_status.specs.declared.values.RingStatus.{RingStatus}
use Rattle.ring_status.specs.declared.values.WithinCount.{WithinCount}

-- ---- what is measured

abbrev pub name_text : Metric → List ℕ
name_text of.Failed = codes "cinoweta_node_failed"
name_text of.Hangs = codes "cinoweta_node_hangs"
name_text of.Full = codes "cinoweta_node_full"
name_text of.AtLimit = codes "cinoweta_node_at_limit"
name_text of.Inputs = codes "cinoweta_inputs_total"
name_text of.Durable = codes "cinoweta_durable_inputs_total"
name_text of.Sent = codes "cinoweta_messages_sent_total"
name_text of.Taken = codes "cinoweta_messages_taken_total"
name_text of.Credit = codes "cinoweta_messages_credited_total"
name_text of.RefusedMessages = codes "cinoweta_messages_refused_total"
name_text of.Elections = codes "cinoweta_elections_total"
name_text of.Used = codes "cinoweta_journal_used_bytes"
name_text of.Snapshot = codes "cinoweta_journal_snapshot_bytes"
name_text of.Renewable = codes "cinoweta_journal_renewable"
name_text of.Capacity = codes "cinoweta_journal_capacity_bytes"
name_text of.Stands = codes "cinoweta_stands"
name_text of.StandsLeft = codes "cinoweta_stands_left"
name_text of.Floors = codes "cinoweta_floors"
name_text of.Batches = codes "cinoweta_batches_total"
name_text of.Checkpoints = codes "cinoweta_checkpoints_total"
name_text of.Epoch = codes "cinoweta_journal_epoch"
name_text of.Layout = codes "cinoweta_journal_layout"
name_text of.Syncs = codes "cinoweta_syncs_total"
name_text of.Writing = codes "cinoweta_writing_seconds"
name_text of.RefusedRounds = codes "cinoweta_refused_rounds_total"
name_text of.Sessions = codes "cinoweta_sessions_total"
name_text of.Doors = codes "cinoweta_doors"
name_text of.BusyDoors = codes "cinoweta_doors_busy"
name_text of.Letters = codes "cinoweta_letters_waiting"

abbrev pub help_text : Metric → List ℕ
help_text of.Failed = codes "Whether the node failed."
help_text of.Hangs = codes "Whether its device has taken ten seconds for a batch or a checkpoint."
help_text of.Full = codes "Whether the node has no room for a Stand or a message."
help_text of.AtLimit = codes "Whether the node has all Stands that it may take."
help_text of.Inputs = codes "Inputs that the node accepted."
help_text of.Durable = codes "Inputs of the node that are durable."
help_text of.Sent = codes "Messages that the node sent to its successor."
help_text of.Taken = codes "Messages of its predecessor that the node took."
help_text of.Credit = codes "Messages that the successor credited."
help_text of.RefusedMessages = codes "Messages that the node refused for want of room since the start."
help_text of.Elections = codes "Leaders that became known to the node since the start."
help_text of.Used = codes "Bytes of its capacity that its last snapshot and the inputs since take."
help_text of.Snapshot = codes "Bytes of the snapshot that a checkpoint would write now."
help_text of.Renewable = codes "Whether another checkpoint can come, with a snapshot of a quarter of the capacity at most."
help_text of.Capacity = codes "Bytes of a snapshot and of inputs that the node takes."
help_text of.Stands = codes "Stands of the node that are not retired."
help_text of.StandsLeft = codes "Stands that the node may still take."
help_text of.Floors = codes "Groups with a floor, below which terms are retired."
help_text of.Batches = codes "Batches that the node wrote since the start."
help_text of.Checkpoints = codes "Checkpoints that the node made since the start."
help_text of.Epoch = codes "Epoch of its journal's area in use, which each checkpoint raises by 1."
help_text of.Layout = codes "Layout of that area."
help_text of.Syncs = codes "Syncs of its device since the start."
help_text of.Writing = codes "Seconds for which its device has been busy with one of these."
help_text of.RefusedRounds = codes "Rounds refused for want of memory since the start."
help_text of.Sessions = codes "Sessions begun at the node since the start."
help_text of.Doors = codes "Doors of the node."
help_text of.BusyDoors = codes "Doors of the node that serve a session."
help_text of.Letters = codes "Messages in the node's letterbox."

-- a counter never goes down but at a start
abbrev pub kind_text : Metric → List ℕ
kind_text of.Failed = codes "gauge"
kind_text of.Hangs = codes "gauge"
kind_text of.Full = codes "gauge"
kind_text of.AtLimit = codes "gauge"
kind_text of.Inputs = codes "counter"
kind_text of.Durable = codes "counter"
kind_text of.Sent = codes "counter"
kind_text of.Taken = codes "counter"
kind_text of.Credit = codes "counter"
kind_text of.RefusedMessages = codes "counter"
kind_text of.Elections = codes "counter"
kind_text of.Used = codes "gauge"
kind_text of.Snapshot = codes "gauge"
kind_text of.Renewable = codes "gauge"
kind_text of.Capacity = codes "gauge"
kind_text of.Stands = codes "gauge"
kind_text of.StandsLeft = codes "gauge"
kind_text of.Floors = codes "gauge"
kind_text of.Batches = codes "counter"
kind_text of.Checkpoints = codes "counter"
kind_text of.Epoch = codes "gauge"
kind_text of.Layout = codes "gauge"
kind_text of.Syncs = codes "counter"
kind_text of.Writing = codes "gauge"
kind_text of.RefusedRounds = codes "counter"
kind_text of.Sessions = codes "counter"
kind_text of.Doors = codes "gauge"
kind_text of.BusyDoors = codes "gauge"
kind_text of.Letters = codes "gauge"

-- 1 where it is so, else 0
abbrev pub failed : Condition → ℕ
failed Well = 0
failed Limit = 0
failed Full = 0
failed Hangs = 0
failed Failed = 1

abbrev pub full : Condition → ℕ
full Well = 0
full Limit = 0
full Full = 1
full Hangs = 0
full Failed = 0

abbrev pub at_limit : Condition → ℕ
at_limit Well = 0
at_limit Limit = 1
at_limit Full = 0
at_limit Hangs = 0
at_limit Failed = 0

abbrev pub hangs : Condition → ℕ
hangs Well = 0
hangs Limit = 0
hangs Full = 0
hangs Hangs = 1
hangs Failed = 0

abbrev pub value_of : Metric → NodeStatus → ℕ
value_of of.Failed node = failed node.condition
value_of of.Hangs node = hangs node.condition
value_of of.Full node = full node.condition
value_of of.AtLimit node = at_limit node.condition
value_of of.Inputs node = node.held.shown.inputs
value_of of.Durable node = node.held.shown.durable
value_of of.Sent node = node.held.shown.sent
value_of of.Taken node = node.held.shown.taken
value_of of.Credit node = node.held.shown.credit
value_of of.RefusedMessages node = node.counts.refused_messages
value_of of.Elections node = node.counts.elections
value_of of.Used node = node.held.used
value_of of.Snapshot node = node.held.snapshot
value_of of.Renewable node = (if node.renewable then 1 else 0)
value_of of.Capacity node = node.held.capacity
value_of of.Stands node = node.held.stands
value_of of.StandsLeft node = node.stands_left
value_of of.Floors node = node.held.floors
value_of of.Batches node = node.counts.batches
value_of of.Checkpoints node = node.counts.checkpoints
value_of of.Epoch node = node.held.epoch
value_of of.Layout node = node.held.layout
value_of of.Syncs node = node.counts.syncs
value_of of.Writing node = node.writing
value_of of.RefusedRounds node = node.counts.refused_rounds
value_of of.Sessions node = node.counts.begun
value_of of.Doors node = node.place.doors
value_of of.BusyDoors node = node.counts.busy
value_of of.Letters node = node.letters.count

-- all of them, in their order
unfoldable pub metrics : List Metric
metrics =
    of.Failed ∷ of.Hangs ∷ of.Full ∷ of.AtLimit ∷ of.Inputs ∷ of.Durable ∷ of.Sent
    ∷ of.Taken ∷ of.Credit ∷ of.RefusedMessages ∷ of.Elections ∷ of.Used ∷ of.Snapshot ∷ of.Renewable ∷ of.Capacity ∷ of.Stands ∷ of.StandsLeft
    ∷ of.Floors ∷ of.Batches ∷ of.Checkpoints ∷ of.Epoch ∷ of.Layout ∷ of.Syncs ∷ of.Writing ∷ of.RefusedRounds ∷ of.Sessions ∷ of.Doors ∷ of.BusyDoors ∷ of.Letters ∷ []

-- ---- the text

abbrev pub head_of : List ℕ → List ℕ → List ℕ → List ℕ
head_of name help kind =
    codes "# HELP " ++ name ++ codes " " ++ help ++ codes "\n# TYPE " ++ name ++ codes " " ++ kind ++ codes "\n"

-- the line of a node
abbrev pub sample : Metric → NodeStatus → List ℕ
sample metric node =
    name_text metric ++ codes "{node=\"" ++ decimal node.place.node ++ codes "\"} " ++ decimal (value_of metric node) ++ codes "\n"

abbrev pub family_of : List NodeStatus → Metric → List ℕ
family_of nodes metric = head_of (name_text metric) (help_text metric) (kind_text metric) ++ flat_map (sample metric) nodes

-- the line of a refusal that clients of a node were told
unfoldable pub refusal_sample : ℕ → RefusalCount → List ℕ
refusal_sample node told =
    codes "cinoweta_refusals_total{node=\"" ++ decimal node ++ codes "\",number=\"" ++ decimal told.number
    ++ codes "\"} " ++ decimal told.count ++ codes "\n"

abbrev pub refusal_samples : NodeStatus → List ℕ
refusal_samples node = flat_map (refusal_sample node.place.node) (node.refusals).items

unfoldable pub refusals_head : List ℕ
refusals_head = head_of (codes "cinoweta_refusals_total") (codes "Refusals that clients were told since the start, by their number.") (codes "counter")

unfoldable pub refusals_family : List NodeStatus → List ℕ
refusals_family nodes = refusals_head ++ flat_map refusal_samples nodes

-- the line of how many commits of a node took no longer than a bound
unfoldable pub bucket : ℕ → List ℕ → ℕ → List ℕ
bucket node bound count =
    codes "cinoweta_commit_seconds_bucket{node=\"" ++ (decimal node ++ (codes "\",le=\""
    ++ (bound ++ (codes "\"} " ++ (decimal count ++ codes "\n")))))

abbrev pub within_sample : ℕ → WithinCount → List ℕ
within_sample node told = bucket node (seconds_text told.bound) told.count

-- how long they took, which is told in millionths, and how many there were
unfoldable pub commit_sum : ℕ → ℕ → List ℕ
commit_sum node micros =
    codes "cinoweta_commit_seconds_sum{node=\"" ++ (decimal node ++ (codes "\"} " ++ (decimal micros ++ codes "e-6\n")))

unfoldable pub commit_count : ℕ → ℕ → List ℕ
commit_count node count =
    codes "cinoweta_commit_seconds_count{node=\"" ++ (decimal node ++ (codes "\"} " ++ (decimal count ++ codes "\n")))

abbrev pub commit_totals : ℕ → CommitTimes → List ℕ
commit_totals node times =
    bucket node (codes "+Inf") times.count ++ commit_sum node times.micros ++ commit_count node times.count

abbrev pub commit_samples : NodeStatus → List ℕ
commit_samples node = flat_map (within_sample node.place.node) (node.commits.within).items ++ commit_totals node.place.node node.commits

unfoldable pub commits_head : List ℕ
commits_head = head_of (codes "cinoweta_commit_seconds") (codes "How long batches and checkpoints took since the start, those that failed too.") (codes "histogram")

unfoldable pub commits_family : List NodeStatus → List ℕ
commits_family nodes = commits_head ++ flat_map commit_samples nodes

unfoldable pub started_family : ℕ → List ℕ
started_family started =
    head_of (codes "cinoweta_start_time_seconds") (codes "When the program was started, in Unix time.") (codes "gauge")
    ++ codes "cinoweta_start_time_seconds" ++ codes " " ++ decimal started ++ codes "\n"

unfoldable pub version_start : List ℕ → List ℕ
version_start version =
    head_of (codes "cinoweta_build_info") (codes "1, with the version of the program, and the layout that it writes.") (codes "gauge")
    ++ codes "cinoweta_build_info" ++ codes "{version=\"" ++ version ++ codes "\""

unfoldable pub layout_label : ℕ → List ℕ
layout_label layout = codes ",layout=\"" ++ decimal layout ++ codes "\"} 1\n"

abbrev pub version_family : List ℕ → ℕ → List ℕ
version_family version layout = version_start version ++ layout_label layout

-- which ring it is, where it has an identity
unfoldable pub identity_sample : List ℕ → List ℕ
identity_sample text =
    head_of (codes "cinoweta_ring_info") (codes "1, with the identity of the ring.") (codes "gauge")
    ++ codes "cinoweta_ring_info" ++ codes "{ring=\"" ++ text ++ codes "\"} 1\n"

abbrev pub identity_family : Option (List ℕ) → List ℕ
identity_family None = []
identity_family (Some text) = identity_sample text

abbrev pub value_line : List ℕ → ℕ → List ℕ
value_line name value = name ++ codes " " ++ decimal value ++ codes "\n"

abbrev pub gauge_of : List ℕ → List ℕ → ℕ → List ℕ
gauge_of name help value = head_of name help (codes "gauge") ++ value_line name value

-- a number of the process, where there is one
abbrev pub process_family : List ℕ → List ℕ → Option ℕ → List ℕ
process_family name help None = []
process_family name help (Some value) = gauge_of name help value

-- what all programs tell so: when it was started, its memory and its descriptors
unfoldable pub begun_family : ℕ → List ℕ
begun_family started =
    process_family (codes "process_start_time_seconds") (codes "Start time of the process since unix epoch in seconds.") (Some started)

unfoldable pub resident_family : Process → List ℕ
resident_family process =
    process_family (codes "process_resident_memory_bytes") (codes "Resident memory size in bytes.") process.resident_bytes

unfoldable pub open_family : Process → List ℕ
open_family process = process_family (codes "process_open_fds") (codes "Number of open file descriptors.") process.open_fds

unfoldable pub max_family : Process → List ℕ
max_family process = process_family (codes "process_max_fds") (codes "Maximum number of open file descriptors.") process.max_fds

abbrev pub process_families : ℕ → Process → List ℕ
process_families started process =
    begun_family started ++ resident_family process ++ open_family process ++ max_family process

-- what is told of the program
abbrev pub program_families : List ℕ → Option (List ℕ) → ℕ → Process → List ℕ
program_families version ring started process =
    version_family version LAYOUT ++ identity_family ring ++ started_family started ++ process_families started process

-- the version, which ring it is and when it was started, the process, what is measured, how long commits took, and the refusals
unfoldable pub metrics_body : List ℕ → Option (List ℕ) → ℕ → Process → List NodeStatus → List ℕ
metrics_body version ring started process nodes =
    program_families version ring started process ++ flat_map (family_of nodes) metrics ++ commits_family nodes ++ refusals_family nodes

-- a ring's identity, where it has one
abbrev pub identity_of : RingStatus → Option (List ℕ)
identity_of ring = option_map (λ text. text.now) ring.ring

-- what is told of a ring's program
abbrev pub program_told : RingStatus → Process → List ℕ
program_told ring process = program_families (ring.version).now (identity_of ring) ring.started process

-- what is told of a ring and of its program
abbrev pub metrics_told : RingStatus → Process → List ℕ
metrics_told ring process = metrics_body (ring.version).now (identity_of ring) ring.started process (ring.nodes).now
