use Rattle.std.proofs.Common.{◌≡◌, [], take}
use Rattle.group_commit.specs.Opening.{core_after, IsKnownLawful}
use Rattle.group_commit.specs.Outbox.{Holds}
use Rattle.group_commit.proofs.desk.parts.replay.Given as goal

abbrev pub invariant-loop-i : goal.invariant-loop-i
invariant-loop-i l =
    (l.core ≡ core_after l.fn.core (take l.i l.inputs))
    × IsKnownLawful l.fn.core (take l.i l.inputs)
    × Holds l.fn.core.me l.outbox l.core.known [] 0
