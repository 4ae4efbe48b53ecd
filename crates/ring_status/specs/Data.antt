-- What is told as JSON. The members stand in the order of their names.
use Rattle.std.specs.Prelude.{ℕ, Bool, List, map, codes, Option, Some, None, option_map}
use Rattle.serde_json.specs.Data.{Data, Members, array, boolean, member, no_members, null, number, object, string, unsigned}
use Rattle.serde_json.specs.View.{items_of}
use Rattle.ring_records.specs.declared.decision.Decision.{Decision}
use Rattle.ring_status.specs.declared.holder.Holder.{Holder}
use Rattle.ring_status.specs.declared.values.Condition.{Condition}
use Rattle.ring_status.specs.declared.values.Condition.TheVariants.{Well, Limit, Full, Hangs, Failed}
use Rattle.ring_status.specs.declared.values.NodeStatus.{NodeStatus}
use Rattle.ring_status.specs.declared.values.RefusalCount.{RefusalCount}
use Rattle.ring_status.specs.declared.values.RingStatus.{RingStatus}

abbrev pub natural : ℕ → Data
natural n = number (unsigned n)

-- one for each, in their order
abbrev pub each : {A : Type 0} → (A → Data) → List A → Data
each data_of xs = array (items_of (map data_of xs))

-- ---- a node

abbrev pub condition_text : Condition → List ℕ
condition_text Well = codes "well"
condition_text Limit = codes "limit"
condition_text Full = codes "full"
condition_text Hangs = codes "hangs"
condition_text Failed = codes "failed"

abbrev pub refusal_data : RefusalCount → Data
refusal_data told = object (member (codes "count") (natural told.count) (member (codes "number") (natural told.number) no_members))

-- the members of a journal: the last ones, those before, and all
abbrev pub journal_last : NodeStatus → Members
journal_last node =
    member (codes "renewable") (boolean node.renewable)
    (member (codes "snapshot") (natural node.held.snapshot)
    (member (codes "syncs") (natural node.counts.syncs)
    (member (codes "used") (natural node.held.used)
    (member (codes "writing") (natural node.writing) no_members))))

abbrev pub journal_middle : NodeStatus → Members
journal_middle node =
    member (codes "epoch") (natural node.held.epoch)
    (member (codes "inputs") (natural node.held.shown.inputs)
    (member (codes "layout") (natural node.held.layout)
    (member (codes "refused") (natural node.counts.refused_rounds) (journal_last node))))

abbrev pub journal_members : NodeStatus → Members
journal_members node =
    member (codes "batches") (natural node.counts.batches)
    (member (codes "capacity") (natural node.held.capacity)
    (member (codes "checkpoint_age") (natural node.checkpoint_age)
    (member (codes "checkpoints") (natural node.counts.checkpoints)
    (member (codes "durable") (natural node.held.shown.durable) (journal_middle node)))))

abbrev pub journal_data : NodeStatus → Data
journal_data node = object (journal_members node)

abbrev pub messages_data : NodeStatus → Data
messages_data node = object
    (member (codes "credit") (natural node.held.shown.credit)
    (member (codes "refused") (natural node.counts.refused_messages)
    (member (codes "sent") (natural node.held.shown.sent)
    (member (codes "taken") (natural node.held.shown.taken)
    (member (codes "waiting") (natural node.letters.count) no_members)))))

abbrev pub sessions_data : NodeStatus → Data
sessions_data node = object
    (member (codes "begun") (natural node.counts.begun)
    (member (codes "busy") (natural node.counts.busy)
    (member (codes "doors") (natural node.place.doors)
    (member (codes "refusals") (each refusal_data (node.refusals).items) no_members))))

abbrev pub stands_data : NodeStatus → Data
stands_data node = object
    (member (codes "floors") (natural node.held.floors)
    (member (codes "left") (natural node.stands_left)
    (member (codes "taken") (natural node.held.stands) no_members)))

abbrev pub node_data : NodeStatus → Data
node_data node = object
    (member (codes "elections") (natural node.counts.elections)
    (member (codes "journal") (journal_data node)
    (member (codes "messages") (messages_data node)
    (member (codes "node") (natural node.place.node)
    (member (codes "port") (natural node.place.port)
    (member (codes "sessions") (sessions_data node)
    (member (codes "stands") (stands_data node)
    (member (codes "state") (string (condition_text node.condition)) no_members))))))))

-- ---- the ring

-- an identity, where there is one
abbrev pub identity_data : Option (List ℕ) → Data
identity_data None = null
identity_data (Some text) = string text

unfoldable pub status_data : RingStatus → Data
status_data ring = object
    (member (codes "dir") (string (ring.dir).now)
    (member (codes "doorless") (each natural (ring.doorless).now)
    (member (codes "idle") (natural ring.idle)
    (member (codes "nodes") (each node_data (ring.nodes).now)
    (member (codes "ring") (identity_data (option_map (λ text. text.now) ring.ring))
    (member (codes "started") (natural ring.started)
    (member (codes "version") (string (ring.version).now)
    (member (codes "words") (string (ring.words).now) no_members))))))))

-- ---- leaders

abbrev pub lead_data : Decision → Data
lead_data lead = object
    (member (codes "bid") (natural (lead.leader).bid)
    (member (codes "group") (string (lead.key).group)
    (member (codes "node") (natural (lead.leader).node)
    (member (codes "term") (natural (lead.key).term) no_members))))

-- a page by the board of a node, and whether more groups stand behind it
unfoldable pub leaders_data : ℕ → List Decision → Bool → Data
leaders_data node leads more = object
    (member (codes "by") (natural node)
    (member (codes "leaders") (each lead_data leads)
    (member (codes "more") (boolean more) no_members)))

unfoldable pub latest_data : ℕ → Decision → Holder → Data
latest_data node lead holder = object
    (member (codes "by") (natural node)
    (member (codes "leader") (lead_data lead)
    (member (codes "present") (boolean holder.present)
    (member (codes "resigned") (boolean holder.resigned)
    (member (codes "text") (string (holder.text).now) no_members)))))
