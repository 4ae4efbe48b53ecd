use Rattle.std.proofs.Common.{List, ◌++◌, take}
use Rattle.ring_records.specs.declared.input.Input.{Input}
use Rattle.group_commit.specs.Past.{IsPast}
use Rattle.ring_start.specs.Fits.{Agrees}
use Rattle.ring_start.proofs.look_over.agrees.Given as goal

-- the node agrees with the notices before this one, whatever its past
abbrev pub invariant-loop-notice : goal.invariant-loop-notice
invariant-loop-notice l = (past : List Input) → IsPast l.desk.view.member l.desk.opening past → Agrees l.desk.view.member.node (past ++ l.desk.view.state.inputs) (take l.notice-index l.told)
