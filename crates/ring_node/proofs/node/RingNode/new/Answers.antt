use Rattle.std.proofs.Common.{arith, ◌≡◌, ◌∙◌, [], List, length, refl, ap, sym, subst}
use Rattle.ring_records.specs.Member.{Member, member}
use Rattle.ring_records.specs.declared.input.Input.{Input}
use Rattle.ring_records.specs.Summary.{empty}
use Rattle.disk_model.specs.Disk.{Reaches}
use Rattle.gated_journal.specs.Reading.{device_size, fresh_area}
use Rattle.group_commit.specs.Desk.{DeskKept, new_desk, seen}
use Rattle.group_commit.specs.Past.{IsPast}
use Rattle.group_commit.proofs.New.{no_past, seen_none}
use Rattle.ring_records.specs.Admission.{fresh, newest}
use Rattle.ring_records.specs.States.{opened}
use Rattle.node_store.specs.State.{opened_view}
use Rattle.node_store.specs.Node as nodes
use Rattle.ring_node.specs.Held.{reach_of, view_with}
use Rattle.ring_node.proofs.Ring.{by_name, opens}
use Rattle.ring_node.proofs.Sending.{sent-none}
use Rattle.ring_node.proofs.Serving.{idle_reaches, none_lawful, new_shown}
use Rattle.ring_node.proofs.node.RingNode.new.Goals as goal

-- what it shows, with no past
seen_new : (m : Member) (desk : DeskKept) (past : List Input) → past ≡ [] → desk ≡ new_desk m 0 (fresh_area newest 1 empty) → seen past desk ≡ opened_view m 0 (opened fresh [])
seen_new m desk past none made = (λ i. seen (none i) desk) ∙ (seen_none desk ∙ ap (λ (d : DeskKept). d.view) made)

pub invariant_of-result : goal.invariant_of-result
invariant_of-result c =
    let m = member c.args.me c.args.n c.args.capacity in
    let made = c.in-Ok.ensures in
    let limit = c.in_ok-device.ensures.limit in
    let size = c.device_size.ensures in
    let same : reach_of (nodes.device_of c.in-Ok.node) ≡ reach_of c.idle.result = made.reach in
    let desk = c.in-Ok.node.desk in
    let behind : IsPast desk.view.member desk.opening c.new-in-Ok.result.items =
    subst (IsPast desk.view.member desk.opening) (sym c.new-in-Ok.ensures.items) (no_past desk.view.member desk.opening (ap (λ (d : DeskKept). d.opening) made.desk)) in
    let reaches : Reaches (reach_of c.idle.result) (device_size c.args.capacity) = idle_reaches c.idle.result c.in_ok-device.device _ c.idle.ensures.idle c.idle.ensures.inner (omega arith) in
    by_name m _ _ _ _ _ _ _ _ _ behind (seen_new m desk c.new-in-Ok.result.items c.new-in-Ok.ensures.items made.desk) same c.new-in-Ok-2.ensures.items c.new-in-Ok-3.ensures.items (opens m 0 fresh [] _ [] c.requires.range (none_lawful c.args.me c.args.n c.args.capacity) refl reaches (sent-none c.args.me))

pub returns-in-Ok : goal.returns-in-Ok
returns-in-Ok c =
    let none = c.new-in-Ok.ensures.items in
    let shows = seen_new (member c.args.me c.args.n c.args.capacity) c.in-Ok.node.desk c.new-in-Ok.result.items none c.in-Ok.ensures.desk in
    record { made = (λ i. view_with (length (none i)) (shows i) (c.new-in-Ok-2.ensures.items i)) ∙ new_shown c.args.me c.args.n c.args.capacity }
