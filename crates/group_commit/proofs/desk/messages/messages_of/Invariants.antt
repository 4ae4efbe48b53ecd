use Rattle.std.proofs.Common.{ℕ, ◌≡◌, ◌++◌, List, take}
use Rattle.ring_records.specs.declared.input.Input.{Input}
use Rattle.ring_records.specs.Known.{after}
use Rattle.ring_records.specs.Member.{member}
use Rattle.group_commit.specs.Past.{IsPast}
use Rattle.group_commit.proofs.Messages.{AreSent}
use Rattle.group_commit.proofs.desk.messages.messages_of.Given as goal

abbrev pub invariant-loop-i : goal.invariant-loop-i
invariant-loop-i l =
    (l.core ≡ record { me = l.fn.node; size = l.n; known = after l.fn.node l.from (take l.i l.inputs) })
    × ((capacity : ℕ) (past : List Input) → IsPast (member l.fn.node l.n capacity) l.from past → AreSent l.fn.node l.from.credit l.messages.items (past ++ take l.i l.inputs))
