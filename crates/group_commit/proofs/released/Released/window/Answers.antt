use Rattle.std.proofs.Common.{rules, ◌≡◌, ◌-◌, ◌≤◌, ◌∙◌, length, ap, take_all, arith}
use Rattle.ring_records.specs.Release.{numbered}
use Rattle.ring_records.proofs.Iteration.{IsItem}
use Rattle.group_commit.proofs.Releases.{numbered-item}
use Rattle.group_commit.proofs.released.Released.window.Goals as goal

pub loop-index-init : goal.loop-index-init
loop-index-init c = c.new-packets.ensures.items

pub loop-index-preserved : goal.loop-index-preserved
loop-index-preserved c =
    let here : IsItem c.window-messages.result.now c.loop-index.index c.index-messages-index.result = record { within = c.loop-index-test.true; is = c.index-messages-index.is } in
    numbered-item (c.sent.result - length c.window-messages.result.now) c.window-messages.result.now c.loop-index.index c.index-messages-index.result c.loop-index.packets.items c.push.new.self.items here c.loop-index.invariant c.in_ok-push.ensures.items

pub returns : goal.returns
returns c =
    let all : length c.window-messages.result.now ≤ c.loop-index.index = search rules in
    let sent = c.sent.ensures.value in
    let count = ap length c.window-messages.ensures.value in
    let first : c.sent.result - length c.window-messages.result.now ≡ c.args.self.now.link.link.credited = omega (arith, sent, count) in
    c.loop-index.invariant ∙ ap (numbered (c.sent.result - length c.window-messages.result.now)) (take_all c.loop-index.index c.window-messages.result.now all)
    ∙ (λ i. numbered (first i) (c.window-messages.ensures.value i))
