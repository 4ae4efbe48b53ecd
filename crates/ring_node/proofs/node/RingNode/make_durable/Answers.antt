use Rattle.std.proofs.Common.{arith, ◌≡◌, ◌++◌, ◌-◌, List, length, length-append, ap, sym, subst, ◌∙◌, refl}
use Rattle.ring_records.specs.declared.msg.Msg.{Msg}
use Rattle.group_commit.specs.Desk.{DeskKept, DeskView, landed, seen}
use Rattle.ring_node.specs.Held.{reach_of, flies, MayBegin}
use Rattle.ring_node.specs.Messages.{carried_in}
use Rattle.ring_node.specs.Node.{NodeView, state_of, made_durable}
use Rattle.ring_node.proofs.Flights.{may_fly, flies_seen, lands_seen, lands_shown, flying_shown, no_more, lands}
use Rattle.ring_node.proofs.Ring.{by_name, keeps_past}
use Rattle.ring_node.proofs.Serving.{same_view}
use Rattle.ring_node.proofs.node.RingNode.make_durable.Goals as goal
use Rattle.ring_node.proofs.node.RingNode.make_durable.Goals.{In-Ok}

shows : (c : In-Ok) → seen c.self.inside.past.items c.launch.new.node.desk ≡ landed (flies c.args.flight (seen c.self.inside.past.items c.self.inside.node.desk))
shows c = lands_seen c.args.flight _ _ _ c.self.invariant.behind c.self.invariant.whole.served.lawful c.in-Ok.ensures.next

pub launch-requires : goal.launch-requires
launch-requires c = record {
  free = may_fly c.args.flight _ _ _ _ c.self.invariant.behind c.self.invariant.whole.served (subst (λ (v : NodeView). MayBegin c.args.flight v.member (state_of v)) (sym c.self.view_is) c.requires.free);
}

pub add_carried-requires : goal.add_carried-requires
add_carried-requires c =
    let at_most = no_more _ _ _ _ _ c.self.invariant.whole c.args.flight c.in-Ok.landed.packets.items (c.in-Ok.ensures.packets c.self.inside.past.items c.self.invariant.behind) in
    let all = length-append c.self.inside.past.items c.self.inside.node.desk.view.state.inputs in
    let waits = c.waiting-most.ensures.value ∙ ap (λ (d : DeskKept). length d.view.state.inputs - d.view.state.durable) c.desk.ensures in
    let same = ap (λ ps. length (carried_in ps)) c.deref.ensures.value in
    let room = c.in_ok-reserve.ensures.ok in
    record { room = omega (arith, at_most, all, waits, same, room) }

pub memory_alone-requires : goal.memory_alone-requires
memory_alone-requires c = c.in-Err.ensures.in_reach c.self.invariant.whole.served.reaches

pub invariant_of-self-in-Ok : goal.invariant_of-self-in-Ok
invariant_of-self-in-Ok c =
    let found = c.in-Ok.landed.packets.items in
    let added : c.add_carried.new.messages.items ≡ c.self.inside.messages.items ++ carried_in found =
    c.add_carried.ensures ∙ (ap (λ (ms : List Msg). ms ++ carried_in c.deref.result.now) c.reserve.ensures.items ∙ ap (λ ps. c.self.inside.messages.items ++ carried_in ps) c.deref.ensures.value) in
    let behind = keeps_past c.self.inside.past.items c.self.inside.node.desk c.launch.new.node.desk _ c.launch.ensures.stays refl c.self.invariant.behind in
    by_name _ _ _ _ _ _ _ _ _ _ behind (shows (goal.at.invariant_of-self-in-Ok c).In-Ok) c.launch.ensures.reach refl added
    (lands _ _ _ _ _ c.self.invariant.whole c.args.flight found (c.in-Ok.ensures.packets c.self.inside.past.items c.self.invariant.behind))

pub invariant_of-self-in-Err : goal.invariant_of-self-in-Err
invariant_of-self-in-Err c =
    let same = c.in-Err.ensures.same (c.in-Err.ensures.in_reach c.self.invariant.whole.served.reaches) in
    let past = c.self.inside.past.items in
    let behind = keeps_past past c.self.inside.node.desk c.launch.new.node.desk _ same.0 refl c.self.invariant.behind in
    by_name _ _ _ _ _ _ _ _ _ _ behind (ap (seen past) same.0) (ap reach_of same.1) refl c.reserve.ensures.items c.self.invariant.whole

pub returns-in-Ok-clause-next : goal.returns-in-Ok-clause-next
returns-in-Ok-clause-next c =
    same_view _ _ c.self.inside.held.items _ (shows (goal.at.returns-in-Ok-clause-next c).In-Ok) refl
    ∙ (lands_shown _ _ _ c.self.invariant.whole.served c.args.flight ∙ ap (made_durable c.args.flight) c.self.view_is)

pub returns-in-Ok-clause-count : goal.returns-in-Ok-clause-count
returns-in-Ok-clause-count c =
    let past = c.self.inside.past.items in
    let d = c.self.inside.node.desk in
    let flown = ap (λ (v : DeskView). v.state.flying) (flies_seen c.args.flight past d c.self.invariant.behind c.self.invariant.whole.served.lawful) in
    let shown = ap (λ s. s.flying) (flying_shown _ _ _ c.self.invariant.whole.served c.args.flight) in
    let same = c.in-Ok.ensures.count in
    let all = ap (λ (v : NodeView). (made_durable c.args.flight v).durable - v.durable) c.self.view_is in
    omega (arith, flown, shown, same, all)

pub returns-in-Err-clause-err : goal.returns-in-Err-clause-err
returns-in-Err-clause-err c =
    let same = c.in-Err.ensures.same (c.in-Err.ensures.in_reach c.self.invariant.whole.served.reaches) in
    same_view _ _ c.self.inside.held.items _ (ap (seen c.self.inside.past.items) same.0) refl ∙ c.self.view_is
