use Rattle.group_commit.proofs.Settling.{holds_restored}
use Rattle.group_commit.proofs.outbox.Outbox.restore.Goals as goal

pub returns : goal.returns
returns c = λ me. holds_restored me _ c.args.from.now c.in_ok-restore.ensures c.new.ensures.items (record { packets = c.new-2.ensures.packets; notices = c.new-2.ensures.notices; again = c.new-2.ensures.again })
