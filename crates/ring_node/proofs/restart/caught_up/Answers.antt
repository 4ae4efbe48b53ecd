use Rattle.std.proofs.Common.{arith, rules, ◌≡◌, ◌≤◌, ◌++◌, ◌-◌, length, take, drop, ap, ◌∙◌}
use Rattle.std.proofs.lemmas.List.{take_all, length-drop}
use Rattle.ring_records.specs.History.{credit}
use Rattle.ring_records.specs.Release.{window}
use Rattle.group_commit.specs.Desk.{seen}
use Rattle.group_commit.proofs.Seen.{all_seen}
use Rattle.ring_node.specs.Messages.{carried_in}
use Rattle.ring_node.proofs.Again.{caught_up, known_within, room_within}
use Rattle.ring_node.proofs.restart.caught_up.Goals as goal
use Rattle.ring_node.proofs.restart.caught_up.Goals.{After-deref}

-- what is released again, by all inputs
window_is : (c : After-deref) → c.deref.result.now ≡ window c.args.desk.now.view.member.node (seen c.args.past.now.items c.args.desk.now).state.inputs
window_is c =
    c.deref.ensures.value ∙ (c.in_ok-window.ensures.packets c.args.past.now.items c.requires.behind
    ∙ ap (window c.args.desk.now.view.member.node) (take_all (seen c.args.past.now.items c.args.desk.now).state.durable (seen c.args.past.now.items c.args.desk.now).state.inputs (let all = c.requires.durable in omega arith)))

pub overflow_sub-known : goal.overflow_sub-known
overflow_sub-known c =
    let known = all_seen c.args.past.now.items c.args.desk.now c.requires.behind c.credit.ensures.known in
    let credited = c.credit.ensures.value ∙ (λ i. (known i).credit) in
    let count : c.len-2.result ≡ length c.args.messages.items = search rules in
    let few = c.requires.credited in
    omega arith

-- how many of them are known
known_is : (c : After-deref) → c.len-2.result - c.credit.result ≡ length c.args.messages.items - credit (seen c.args.past.now.items c.args.desk.now).state.inputs
known_is c =
    let count : c.len-2.result ≡ length c.args.messages.items = search rules in
    let known = all_seen c.args.past.now.items c.args.desk.now c.requires.behind c.credit.ensures.known in
    let credited = c.credit.ensures.value ∙ (λ i. (known i).credit) in
    omega arith

inside : (c : After-deref) → c.len-2.result - c.credit.result ≤ length c.deref.result.now
inside c =
    let within = known_within c.args.desk.now.view.member.node c.requires.sent.0 (seen c.args.past.now.items c.args.desk.now).state.inputs c.args.messages.items c.requires.sent.1 c.requires.credited in
    let known = known_is c in
    let long = ap length (window_is c) in
    omega arith

-- those behind them
behind : (c : After-deref) → take (length c.deref.result.now - (c.len-2.result - c.credit.result)) (drop (c.len-2.result - c.credit.result) c.deref.result.now)
    ≡ drop (length c.args.messages.items - credit (seen c.args.past.now.items c.args.desk.now).state.inputs) (window c.args.desk.now.view.member.node (seen c.args.past.now.items c.args.desk.now).state.inputs)
behind c =
    let known = c.len-2.result - c.credit.result in
    let long = length-drop known c.deref.result.now in
    take_all (length c.deref.result.now - known) (drop known c.deref.result.now) (omega arith) ∙ (λ i. drop (known_is c i) (window_is c i))

pub slice_bounds-add_carried-count : goal.slice_bounds-add_carried-count
slice_bounds-add_carried-count c = inside (goal.at.slice_bounds-add_carried-count c).After-deref

pub slice_bounds-add_carried-start : goal.slice_bounds-add_carried-start
slice_bounds-add_carried-start c = inside (goal.at.slice_bounds-add_carried-start c).After-deref

pub add_carried-requires : goal.add_carried-requires
add_carried-requires c =
    let here = (goal.at.add_carried-requires c).After-deref in
    let few = room_within c.args.desk.now.view.member.node c.requires.sent.0 (seen c.args.past.now.items c.args.desk.now).state.inputs c.args.messages.items c.requires.sent.1 c.requires.credited in
    let carried = ap (λ ps. length (carried_in ps)) (behind here) in
    let long = ap length (window_is here) in
    let counted = c.len.ensures in
    let same = c.deref.ensures.len in
    let room = c.in_ok-reserve.ensures.ok in
    record { room = omega arith }

pub returns : goal.returns
returns c =
    let here = (goal.at.returns c).After-deref in
    c.add_carried.ensures ∙ ((λ i. c.reserve.ensures.items i ++ carried_in (behind here i)) ∙ caught_up c.args.desk.now.view.member.node c.requires.sent.0 (seen c.args.past.now.items c.args.desk.now).state.inputs c.args.messages.items c.requires.sent.1 c.requires.credited)
