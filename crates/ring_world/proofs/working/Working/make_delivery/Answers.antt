use Rattle.std.proofs.Common.{nat_lt, length, ap, ◌∙◌}
use Rattle.ring_world.specs.Ring.{RingView, node_at, swept_one}
use Rattle.ring_world.proofs.working.Working.make_delivery.Goals as goal

pub returns-clause-next : goal.returns-clause-next
unfolding swept_one
returns-clause-next c = λ t. (
  nat_lt (c.count-before.ensures t) ((c.count.ensures ∙ ap (λ (w : RingView). length (node_at w c.args.node).inputs) c.in_ok-_replies.ensures.next) t),
  c.in_ok-_replies.ensures.next t,
)
