use Rattle.std.proofs.Common.{ℕ, List, ◌++◌, length, take}
use Rattle.ring_records.specs.declared.input.Input.{Input}
use Rattle.ring_records.specs.declared.summary.Summary.{Summary}
use Rattle.ring_records.specs.Known.{after}
use Rattle.group_commit.specs.Outbox.{AreFree, Holds, Keeps}
use Rattle.group_commit.proofs.Settling.{Settles}
use Rattle.group_commit.proofs.outbox.Outbox.settle.Given as goal

abbrev pub invariant-loop-i : goal.invariant-loop-i
invariant-loop-i l =
    Settles l.self l.landed l.fn.self.waiting.items (length l.inputs) l.i
    × ((me n : ℕ) (s : Summary) (rest : List Input) → Holds me l.fn.self s (l.inputs ++ rest) (length l.inputs) → AreFree me n s l.inputs
    → Keeps l.self.released (after me s (take l.i l.inputs)))
