use Rattle.std.proofs.Common.{◌≡◌, take}
use Rattle.ring_records.specs.Known.{after}
use Rattle.group_commit.proofs.desk.vouch.core_of.Given as goal

abbrev pub invariant-loop-i : goal.invariant-loop-i
invariant-loop-i l = l.core ≡ record { me = l.fn.node; size = l.n; known = after l.fn.node l.from (take l.i l.inputs) }
